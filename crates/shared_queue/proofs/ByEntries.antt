-- What a seat of a queue of numbers learns by calls that sleep, by entries.
use Rattle.std.proofs.Common.{◌≡◌, ℕ, List, [], ◌∷◌, ◌++◌, length, refl, None, Some, true}
use Rattle.history.specs.declared.operations.Entry.TheVariants.{Pop}
use Rattle.history.specs.declared.operations.Taken.{Taken}
use Rattle.history.specs.declared.refusals.Refusal.TheVariants.{Busy, Closed}
use Rattle.history.specs.Entries.{Leads, LeadsTo}
use Rattle.history.specs.Seats.{Known}
use Rattle.history.specs.Answers.{FoundEmpty, FoundShutEmpty}
use Rattle.carriers.specs.declared.items.ItemOf.{ItemOf}
use Rattle.carriers.specs.Knowledge.{KnownOf}
use Rattle.carriers.specs.Answers.{FoundEmptyOf, FoundShutEmptyOf, PoppedOf, SeesMoreOf}
use Rattle.carriers.specs.DeedsOfNumbers.{deeds_of, known_by_deeds}
use Rattle.carriers.specs.ToEntries.{answers, pop_refused}
use Rattle.carriers.proofs.Learning.{answers_then, pop_refused_then}
use Rattle.shared_queue.specs.Waits.{WaitedOf, EmptySinceOf}
use Rattle.shared_queue.specs.Answers.{ReceivedOf, RecvRefusedOf}
use Rattle.shared_queue.proofs.Waiting.{waits_on}

-- a seat with other notes
abbrev noting : {A : Type 0} → KnownOf A → List ℕ → KnownOf A
noting k notes = record { number = k.number; seen = k.seen; mine = k.mine; notes = notes }

abbrev known_noting : Known → List ℕ → Known
known_noting k notes = record { number = k.number; seen = k.seen; mine = k.mine; notes = notes }

-- a seat that waited saw no less, but for its notes
sees_but : {A : Type 0} (k k' : KnownOf A) → WaitedOf k k' → SeesMoreOf k (noting k' k.notes)
sees_but k k' w = record { number = w.number; between = w.between; seen = w.seen; mine = w.mine; notes = refl }

-- a value of a queue of numbers
abbrev pub taken_from : ItemOf ℕ → Taken
taken_from front = record { from = front.from; body = front.value }

-- a seat that waited, and then popped, made the pop of just this value
pub received-mine : (k k' : Known) (front : ItemOf ℕ) → ReceivedOf (known_by_deeds k) front (known_by_deeds k') → k'.mine ≡ k.mine ++ Pop k.number (taken_from front) ∷ []
received-mine k k' front r =
    let a : KnownOf ℕ = noting r.last k.notes in
    let b : Known = known_noting k' k.notes in
    let p : PoppedOf a front (known_by_deeds b) =
    record { number = r.popped.number; between = r.popped.between; seen = r.popped.seen; mine = r.popped.mine; notes = refl } in
    (answers k b (Some (taken_from front)) (answers_then (known_by_deeds k) a (known_by_deeds b) (Some front) (sees_but (known_by_deeds k) r.last r.waited) p)).mine

-- one whose time was over found the queue empty, and did nothing
pub empty-since : (k k' : Known) (late : KnownOf ℕ) → WaitedOf (known_by_deeds k) late → EmptySinceOf late (known_by_deeds k') → LeadsTo k'.seen [] × (k'.mine ≡ k.mine)
empty-since k k' late w e =
    let a : KnownOf ℕ = noting e.last k.notes in
    let b : Known = known_noting k' (k.notes ++ length (deeds_of k'.seen) ∷ []) in
    let f : FoundEmptyOf a (known_by_deeds b) =
    record { number = e.empty.number; between = e.empty.between; seen = e.empty.seen; leaves = e.empty.leaves; mine = e.empty.mine; notes = refl } in
    let on : WaitedOf (known_by_deeds k) e.last = waits_on (known_by_deeds k) late e.last w e.waited in
    let found : FoundEmpty k b = answers k b None (answers_then (known_by_deeds k) a (known_by_deeds b) None (sees_but (known_by_deeds k) e.last on) f) in
    (found.empty, found.mine)

-- one that found the queue shut and empty saw it so, and did nothing
pub shut_empty-since : (k k' : Known) → RecvRefusedOf (known_by_deeds k) Closed (known_by_deeds k') → Leads k'.seen true [] × (k'.mine ≡ k.mine)
shut_empty-since k k' r =
    let a : KnownOf ℕ = noting r.last k.notes in
    let b : Known = known_noting k' (k.notes ++ length (deeds_of k'.seen) ∷ []) in
    let f : FoundShutEmptyOf a (known_by_deeds b) =
    record { number = r.refused.number; between = r.refused.between; seen = r.refused.seen; leaves = r.refused.leaves; mine = r.refused.mine; notes = refl } in
    let found : FoundShutEmpty k b =
    pop_refused k b Closed (pop_refused_then (known_by_deeds k) a (known_by_deeds b) Closed (sees_but (known_by_deeds k) r.last r.waited) f) in
    (found.empty, found.mine)

-- one that saw no less since it waited did nothing
pub sees-mine : (k k' : Known) (last : KnownOf ℕ) → WaitedOf (known_by_deeds k) last → SeesMoreOf last (known_by_deeds k') → k'.mine ≡ k.mine
sees-mine k k' last w s =
    let a : KnownOf ℕ = noting last k.notes in
    let b : Known = known_noting k' k.notes in
    let f : SeesMoreOf a (known_by_deeds b) = record { number = s.number; between = s.between; seen = s.seen; mine = s.mine; notes = refl } in
    (pop_refused k b Busy (pop_refused_then (known_by_deeds k) a (known_by_deeds b) Busy (sees_but (known_by_deeds k) last w) f)).mine
