-- What a call tells its seat of values, by what it tells of entries and which deeds it adds.
use Rattle.std.proofs.Common.{◌≡◌, ℕ, Bool, true, false, cond, nat_eq, List, [], ◌∷◌, ◌++◌, length, Result, Ok, Err, OnOk, IfErr, sym, refl, ap}
use Rattle.std.proofs.Common.{subst, ◌∙◌, arith, append-nil, append_assoc, length-append}
use Rattle.std.proofs.lemmas.Bool.{eq-eqb}
use Rattle.std.proofs.lemmas.List.Elements.{filter-append}
use Rattle.history.specs.declared.operations.Entry.{Entry}
use Rattle.history.specs.declared.operations.Entry.TheVariants.{Shut}
use Rattle.history.specs.declared.refusals.Refusal.{Refusal}
use Rattle.history.specs.declared.refusals.Refusal.TheVariants.{Closed}
use Rattle.history.specs.Entries.{Leads}
use Rattle.history.specs.Answers.{Adds, FoundEmpty, FoundShut, FoundShutEmpty, SeesMore, PushRefused, PopRefused}
use Rattle.carriers.specs.Deeds.{Deed, did_push, did_pop, did_shut, doer_of, own_deeds, RunsTo, RunsToShut}
use Rattle.carriers.specs.DeedsOfNumbers.{Matches}
use Rattle.carriers.specs.Answers.{AddsDeed, FindsDone, SeesMoreOf, PushRefusedOf, PopRefusedOf, MeetsOf, DidShutOf}
use Rattle.node_arena.specs.declared.seats.Seat.{Seat}
use Rattle.node_arena.specs.Arenas.{Arena}
use Rattle.node_arena.specs.Deeds.{pushed, popped}
use Rattle.node_arena.specs.Deeds as slots
use Rattle.node_arena.specs.Beside.{slots_in}
use Rattle.node_arena.specs.Knowledge.{SeatView}
use Rattle.node_arena.specs.Traces.{Traced}
use Rattle.node_arena.specs.Seats.{IsSeat, IsReady, Sees, SeesMoreDeeds, Meets, HasNoSlot, carries_of, known_of}
use Rattle.arena_queue.specs.Answers.{AnswersShut}
use Rattle.arena_queue.proofs.Pushes.{learns}
use Rattle.value_queue.specs.ValuesSeen.{told, left_by, known_by}
use Rattle.value_queue.specs.Sights.{Sight, values_seen, values_known, IsClear, GoesOn}
use Rattle.value_queue.specs.Runs.{told-append, left_by-Runs, as_item}
use Rattle.value_queue.specs.Matched.{length-Matches, Matches-rest, ends_shut}
use Rattle.value_queue.specs.Sound.{nil, RunsTo-Matches, RunsToShut-Matches, seen_runs, length-mine, sight, clear}

nat_eq-self : (n : ℕ) → nat_eq n n ≡ true
nat_eq-self n = eq-eqb n n refl

module _ {A : Type 0} where
  -- a deed of one's own is among one's own
  own-one : (n : ℕ) (d : Deed A) → doer_of d ≡ n → own_deeds n (d ∷ []) ≡ d ∷ []
  own-one n d its = ap (λ b. cond b (d ∷ []) []) (ap (λ k. nat_eq k n) its ∙ nat_eq-self n)

  -- what makes no more deeds of one's own leaves them as they were
  own-more : (n : ℕ) (ds es : List (Deed A)) → length (own_deeds n (ds ++ es)) ≡ length (own_deeds n ds) → own_deeds n (ds ++ es) ≡ own_deeds n ds
  own-more n ds es long =
      let split = filter-append (λ d. nat_eq (doer_of d) n) ds es in
      let none : 0 ≡ length (own_deeds n es) = (let l = ap length split in omega (arith, l, long, length-append (own_deeds n ds) (own_deeds n es))) in
      split ∙ (ap (λ ys. own_deeds n ds ++ ys) (nil (own_deeds n es) none) ∙ append-nil (own_deeds n ds))

module _ {T : Type 0} (s t : Sight T) (is : IsClear s) (it : IsClear t) where
  -- what it has then seen goes on
  pub seen-more : GoesOn s t → (between : List (Deed T)) × (values_seen t ≡ values_seen s ++ between)
  seen-more more = (told (left_by [] s.deeds) more.between, ap (told []) more.deeds ∙ told-append [] s.deeds more.between)

  -- and ends with what was added
  seen-adds : (d : slots.Deed T) (between : List (slots.Deed T)) → t.deeds ≡ (s.deeds ++ between) ++ d ∷ []
      → (more : List (Deed T)) × (values_seen t ≡ (values_seen s ++ more) ++ told (left_by [] (s.deeds ++ between)) (d ∷ []))
  seen-adds d between deeds = (
    told (left_by [] s.deeds) between,
    ap (told []) deeds ∙ (told-append [] (s.deeds ++ between) (d ∷ []) ∙ ap
        (λ ys. ys ++ told (left_by [] (s.deeds ++ between)) (d ∷ [])) (told-append [] s.deeds between)),
  )

  mine-more : (number : t.known.number ≡ s.known.number) (mine : t.known.mine ≡ s.known.mine) (between : List (Deed T))
      → values_seen t ≡ values_seen s ++ between → own_deeds t.known.number (values_seen t) ≡ own_deeds s.known.number (values_seen s)
  mine-more number mine between seen =
      let to : own_deeds t.known.number (values_seen t) ≡ own_deeds s.known.number (values_seen s ++ between) = (λ i. own_deeds (number i) (seen i)) in
      to ∙ own-more s.known.number (values_seen s) between (sym (ap length to) ∙ (length-mine t it ∙ (ap length mine ∙ sym (length-mine s is))))

  -- nothing was done
  pub sees-deeds : GoesOn s t → SeesMore s.known t.known → SeesMoreOf (values_known s) (values_known t)
  sees-deeds more k =
      let seen = seen-more more in
      record { number = k.number; between = seen.0; seen = seen.1; mine = mine-more k.number k.mine seen.0 seen.1; notes = k.notes }

  finds-deeds : (Leaves : List (Deed T) → Type 0) → GoesOn s t → Leaves (values_seen t) → t.known.number ≡ s.known.number
      → t.known.mine ≡ s.known.mine → t.known.notes ≡ s.known.notes ++ length t.known.seen ∷ [] → FindsDone Leaves (values_known s) (values_known t)
  finds-deeds Leaves more leaves number mine notes =
      let seen = seen-more more in
      record {
        number = number;
        between = seen.0;
        seen = seen.1;
        leaves = leaves;
        mine = mine-more number mine seen.0 seen.1;
        notes = notes ∙ ap (λ n. s.known.notes ++ n ∷ []) (sym (length-Matches t.known.seen (values_seen t) it.matches));
      }

  leaves_none : (shut : Bool) → Leads t.known.seen shut [] → RunsTo (values_seen t) shut []
  leaves_none shut leads = RunsTo-Matches t.known.seen (values_seen t) it.matches shut (seen_runs t it) leads

  -- the queue was found empty, or shut, or both
  pub empty-deeds : GoesOn s t → FoundEmpty s.known t.known → FindsDone (λ ds. RunsTo ds false []) (values_known s) (values_known t)
  empty-deeds more k = finds-deeds (λ ds. RunsTo ds false []) more (leaves_none false k.empty) k.number k.mine k.notes

  pub shut-deeds : GoesOn s t → FoundShut s.known t.known → FindsDone RunsToShut (values_known s) (values_known t)
  shut-deeds more k = finds-deeds RunsToShut more (RunsToShut-Matches t.known.seen (values_seen t) it.matches (seen_runs t it) k.shut) k.number k.mine k.notes

  pub shut_empty-deeds : GoesOn s t → FoundShutEmpty s.known t.known → FindsDone (λ ds. RunsTo ds true []) (values_known s) (values_known t)
  shut_empty-deeds more k = finds-deeds (λ ds. RunsTo ds true []) more (leaves_none true k.empty) k.number k.mine k.notes

  -- a call was refused
  pub push_refused-deeds : (refusal : Refusal) → GoesOn s t → PushRefused s.known refusal t.known → PushRefusedOf (values_known s) refusal (values_known t)
  push_refused-deeds Closed more k = shut-deeds more k
  push_refused-deeds _ more k = sees-deeds more k

  pub pop_refused-deeds : (refusal : Refusal) → GoesOn s t → PopRefused s.known refusal t.known → PopRefusedOf (values_known s) refusal (values_known t)
  pop_refused-deeds Closed more k = shut_empty-deeds more k
  pop_refused-deeds _ more k = sees-deeds more k

  -- a deed was added
  adds-deed : (e : Entry) (d : Deed T) (between : List (Deed T)) → doer_of d ≡ s.known.number → Adds s.known e t.known
      → values_seen t ≡ (values_seen s ++ between) ++ d ∷ [] → AddsDeed (values_known s) d (values_known t)
  adds-deed e d between its k seen =
      let n = s.known.number in
      let to : own_deeds t.known.number (values_seen t) ≡ own_deeds n ((values_seen s ++ between) ++ d ∷ []) = (λ i. own_deeds (k.number i) (seen i)) in
      let split : own_deeds n ((values_seen s ++ between) ++ d ∷ []) ≡ own_deeds n (values_seen s ++ between) ++ d ∷ [] =
      filter-append (λ y. nat_eq (doer_of y) n) (values_seen s ++ between) (d ∷ []) ∙ ap (λ ys. own_deeds n (values_seen s ++ between) ++ ys)
      (own-one n d its) in
      let one_more : length (own_deeds n (values_seen s ++ between)) ≡ length (own_deeds n (values_seen s)) =
      (let a = length-mine t it in
      let b = length-mine s is in
      let c = ap length (to ∙ split) in
      let f = ap length k.mine in omega (arith, a, b, c, f, length-append (own_deeds n (values_seen s ++ between)) (d ∷ []), length-append s.known.mine (e ∷ []))) in
      record {
        number = k.number;
        between = between;
        seen = seen;
        mine = to ∙ (split ∙ ap (λ ys. ys ++ d ∷ []) (own-more n (values_seen s) between one_more));
        notes = k.notes;
      }

  -- a value was pushed
  pub push-deed : (e : Entry) (value : T) (between : List (slots.Deed T)) → t.deeds ≡ (s.deeds ++ between) ++ pushed s.known.number value ∷ []
      → Adds s.known e t.known → AddsDeed (values_known s) (did_push s.known.number value) (values_known t)
  push-deed e value between deeds k =
      let seen = seen-adds (pushed s.known.number value) between deeds in
      adds-deed e (did_push s.known.number value) seen.0 refl k seen.1

  -- a value was popped
  pub pop-deed : (e : Entry) (front : slots.Item T) (between : List (slots.Deed T)) → t.deeds ≡ (s.deeds ++ between) ++ popped s.known.number front ∷ []
      → (rest : List (slots.Item T)) (shut : Bool) → slots.Runs [] false (s.deeds ++ between) (front ∷ rest) shut
      → Adds s.known e t.known → AddsDeed (values_known s) (did_pop s.known.number (as_item front)) (values_known t)
  pop-deed e front between deeds rest shut runs k =
      let seen = seen-adds (popped s.known.number front) between deeds in
      let stood = left_by-Runs [] false (s.deeds ++ between) (front ∷ rest) shut runs in
      adds-deed e (did_pop s.known.number (as_item front)) seen.0 refl k (seen.1 ∙ ap (λ q. (values_seen s ++ seen.0) ++ told q (popped s.known.number front ∷ [])) stood)

  -- the queue was shut
  pub shut-deed : GoesOn s t → Adds s.known (Shut s.known.number) t.known → AddsDeed (values_known s) (did_shut s.known.number) (values_known t)
  shut-deed more k =
      let n = s.known.number in
      let seen = seen-more more in
      let all : Matches (s.known.seen ++ (k.between ++ Shut n ∷ [])) (values_seen s ++ seen.0) =
      (let P : List Entry × List (Deed T) → Type 0 = λ y. Matches y.0 y.1 in
      subst P (λ i. ((k.seen ∙ append_assoc s.known.seen k.between (Shut n ∷ [])) i, seen.1 i)) it.matches) in
      let last = ends_shut k.between n seen.0 (Matches-rest s.known.seen (k.between ++ Shut n ∷ []) (values_seen s) seen.0 is.matches all) in
      adds-deed (Shut n) (did_shut n) last.0 refl k (seen.1 ∙ (ap (λ ys. values_seen s ++ ys) last.1 ∙ sym (append_assoc (values_seen s) last.0 (did_shut n ∷ []))))

-- two seats met
pub meets-deeds : {T : Type 0} (s t s' t' : Sight T) → IsClear s → IsClear t → IsClear s' → IsClear t' → t'.deeds ≡ s'.deeds → GoesOn s s' → GoesOn t t'
    → SeesMore s.known s'.known → SeesMore t.known t'.known → MeetsOf (values_known s) (values_known t) (values_known s') (values_known t')
meets-deeds s t s' t' is it is' it' same first second k l = record { same = ap (told []) same; first = sees-deeds s s' is is' first k; second = sees-deeds t t' it it' second l }

-- what a seat of an arena has seen goes on
pub on : {T : Type 0} (s t : Seat T) → SeesMoreDeeds s t → GoesOn (sight s) (sight t)
on s t more = record { between = more.between; deeds = more.deeds }

-- two seats of an arena met
pub meets-values : {T : Type 0} (r : Arena) (s t s' t' : Seat T) → carries_of r ≡ true → IsSeat r s → IsSeat r t → Meets r s t s' t' → MeetsOf (known_by s) (known_by t) (known_by s') (known_by t')
meets-values {T} r s t s' t' carries is it m =
    let values = m.values carries in
    meets-deeds (sight s) (sight t) (sight s') (sight t') (clear r carries s is) (clear r carries t it) (clear r carries s' m.one.seat) (clear r carries t' m.other.seat)
    values.same (on s s' values.first) (on t t' values.second) (sees_all s s' m.all m.was m.first) (sees_all t t' m.all m.was m.second)
  where
    sees_all : (s s' : Seat T) (all : List Entry) (was : Traced) → Sees r.plan s s' all was → SeesMore (known_of s) (known_of s')
    sees_all s s' all was m =
        record {
          number = ap (λ (v : SeatView). v.number) m.knows;
          between = m.more;
          seen = ap (λ (v : SeatView). v.seen) m.knows ∙ m.begins;
          mine = ap (λ (v : SeatView). v.mine) m.knows;
          notes = ap (λ (v : SeatView). v.notes) m.knows;
        }

-- a shut of an arena
module _ {T : Type 0} (worn : Type 0) (r : Arena) (s t : Seat T) (turns : ℕ) (carries : carries_of r ≡ true) (is : IsReady r s) where
  pub shut_done : (out : Result (Unit {0}) Refusal) → AnswersShut worn r s t turns out → OnOk out (DidShutOf (known_by s) (known_by t))
  shut_done (Ok x) a = shut-deed (sight s) (sight t) (clear r carries s is.seat) (clear r carries t a.ready.seat) (on s t a.slots.more) a.shut.adds
  shut_done (Err refusal) a = tt

  pub shut_refused : (out : Result (Unit {0}) Refusal) → AnswersShut worn r s t turns out → IfErr out (λ refusal. PushRefusedOf (known_by s) refusal (known_by t))
  shut_refused (Ok x) a = tt
  shut_refused (Err refusal) a =
      push_refused-deeds (sight s) (sight t) (clear r carries s is.seat) (clear r carries t a.ready.seat) refusal (on s t a.slots.more) (learns s t refusal a.refused.0)

  pub shut_leaves_none : (out : Result (Unit {0}) Refusal) → AnswersShut worn r s t turns out → HasNoSlot s → HasNoSlot t
  shut_leaves_none out a none_out = (ap length a.slots.same ∙ none_out.0, ap slots_in a.slots.hand ∙ none_out.1)
