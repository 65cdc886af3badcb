-- What is told of each task once the submitter and each worker have brought their seats back, and the queue is closed.
use Rattle.std.proofs.Common.{◌≡◌, ◌∙◌, ◌+◌, ◌<◌, ◌≤◌, inl, inr, sym, refl, ap, subst, ℕ, zero, suc, List, [], ◌∷◌, ◌++◌, map, length, replicate}
use Rattle.std.proofs.Common.{Option, Some, None, IsSomeAnd, slice_get, append-nil, length-append, eq-or-lt_of_le, arith}
use Rattle.std.specs.Global.{Vec}
use Rattle.std.specs.List.{All, AllZip, Any, flat_map}
use mathlib.Core.List.{IsPrefix}
use Rattle.std.proofs.lemmas.List.{length-replicate}
use Rattle.std.proofs.lemmas.List.Elements.{All-map, All-replicate}
use Rattle.history.specs.declared.refusals.Refusal.{Refusal}
use Rattle.history.specs.Seats.{Permit}
use Rattle.carriers.specs.declared.items.ItemOf.{ItemOf}
use Rattle.carriers.specs.declared.rests.RestOf.{RestOf}
use Rattle.carriers.specs.Deeds.{Deed, did_push, did_pop, did_shut}
use Rattle.carriers.specs.Knowledge.{KnownOf}
use Rattle.carriers.specs.Rests.{left_in, was_shut_in}
use Rattle.carriers.specs.Ends.{IsOfOneOf, AreAllOf, ClosesOf}
use Rattle.tasks.specs.declared.answers.Done.{Done}
use Rattle.tasks.specs.declared.answers.Outcome.{Outcome}
use Rattle.tasks.specs.declared.runs.Numbered.{Numbered}
use Rattle.tasks.specs.declared.turns.End.TheVariants.{Finished}
use Rattle.tasks.specs.declared.turns.Worked.{Worked}
use Rattle.tasks.specs.declared.offers.Led.{Led}
use Rattle.tasks.specs.Tasks.{AreTold}
use Rattle.tasks.specs.Turns.{EndsTurn, IsBack}
use Rattle.tasks.specs.Gathers.{slots_in, fills, told_done, told_left, IsFilled}
use Rattle.tasks.specs.Offers.{EndsShutBy, HasLed}
use Rattle.tasks.proofs.Lying.{Lies, all-lies, lies-all, any-lies, lies-cases, lies-map, map-lies, flat-lies, zip-right, place_of, element_at, place_low, place-left, place-last}
use Rattle.tasks.proofs.Gathering.{some_same, fills-append, length-fills}
use Rattle.tasks.proofs.Histories.{Pushes, Pops}
use Rattle.tasks.proofs.Telling as telling
use Rattle.tasks.proofs.Telling.{OfItem}
use Rattle.tasks.specs.Parts.{seat_in, done_in, end_in, tells_of, told_of, CanTell}
use Rattle.tasks.specs.Pools.{IsCrewOf, IsFinished, IsAnswered}
use Rattle.tasks.proofs.Finishing.{left_none, Holds, fills-holds, holds-all}

-- the shuts that the submitter made
shuts_of : {N : Type 0} (k k' : KnownOf N) (unshut : Option Refusal) → EndsShutBy k k' unshut → (ns : List ℕ) × (k'.mine ≡ k.mine ++ map did_shut ns)
shuts_of k k' None (inl h) = (k.number ∷ [], h.mine)
shuts_of k k' None (inr h) = ([], h.mine ∙ sym (append-nil k.mine))
shuts_of k k' (Some refusal) h = ([], h.0.mine ∙ sym (append-nil k.mine))

-- what the results of workers tell, by lists
tells-lists : {S T A : Type 0} (ws : List (Worked S (Vec (Done A)))) → tells_of {T = T} (map done_in ws) ≡ flat_map (λ (ds : List (Done A)). map told_done ds) (map (λ (w : Worked S (Vec (Done A))). w.done.items) ws)
tells-lists [] = refl
tells-lists (w ∷ ws) = ap (λ l. map told_done w.done.items ++ l) (tells-lists ws)

module _ {Q S T A : Type 0} (is_seat : Q → S → Type 0) (permits : Q → List Permit) (known : S → KnownOf (Numbered T)) (pop_cause shut_cause : Q → S → S → ℕ → Refusal → Type 0)
    (answers : T → A → Type 0) (queue : Q) where
  pops_of : (ss : List S) (ws : List (Worked S (Vec (Done A)))) → AllZip (IsBack is_seat known pop_cause answers queue) ss ws → ((s : S) → Lies s ss → (known s).mine ≡ [])
      → AllZip (Pops (OfItem answers)) (map known (map seat_in ws)) (map (λ (w : Worked S (Vec (Done A))). w.done.items) ws)
  pops_of [] [] h unused = tt
  pops_of [] (w ∷ ws) h unused = absurd h
  pops_of (s ∷ ss) [] h unused = absurd h
  pops_of (s ∷ ss) (w ∷ ws) h unused =
      let b = h.0 in
      let none = unused s (inl refl) in
      let same = sym b.number in
      (record { items = b.ran.items; mine = b.ran.mine ∙ (λ i. none i ++ map (did_pop (same i)) b.ran.items); done = b.ran.done }, pops_of ss ws h.1 (λ x lies. unused x (inr lies)))

  numbers_of : (ss : List S) (ws : List (Worked S (Vec (Done A)))) → AllZip (IsBack is_seat known pop_cause answers queue) ss ws → (k : ℕ) (s : S) → slice_get ss k ≡ Some s
      → IsSomeAnd (slice_get (map known (map seat_in ws)) k) (λ k'. k'.number ≡ (known s).number)
  numbers_of [] ws h k s at = absurd (let e : None ≡ Some s = at in cc)
  numbers_of (t ∷ ss) [] h k s at = absurd h
  numbers_of (t ∷ ss) (w ∷ ws) h zero s at = h.0.number ∙ ap (λ x. (known x).number) (some_same t s at)
  numbers_of (t ∷ ss) (w ∷ ws) h (suc k) s at = numbers_of ss ws h.1 k s at

  pub each_back : (ss : List S) (ws : List (Worked S (Vec (Done A)))) → AllZip (IsBack is_seat known pop_cause answers queue) ss ws → All (is_seat queue) (map seat_in ws)
  each_back ss ws h = All-map (is_seat queue) seat_in ws (all-lies (λ w. is_seat queue w.seat) ws (seats_back ss ws h))
    where
      seats_back : (ss : List S) (ws : List (Worked S (Vec (Done A)))) → AllZip (IsBack is_seat known pop_cause answers queue) ss ws → (w : Worked S (Vec (Done A))) → Lies w ws → is_seat queue w.seat
      seats_back ss [] h w lies = absurd lies
      seats_back [] (v ∷ ws) h w lies = absurd h
      seats_back (s ∷ ss) (v ∷ ws) h w (inl e) = subst (λ (x : Worked S (Vec (Done A))). is_seat queue x.seat) e h.0.seat
      seats_back (s ∷ ss) (v ∷ ws) h w (inr lies) = seats_back ss ws h.1 w lies

  pub as_many : (ss : List S) (ws : List (Worked S (Vec (Done A)))) → AllZip (IsBack is_seat known pop_cause answers queue) ss ws → length ws ≡ length ss
  as_many [] [] h = refl
  as_many [] (w ∷ ws) h = absurd h
  as_many (s ∷ ss) [] h = absurd h
  as_many (s ∷ ss) (w ∷ ws) h = ap suc (as_many ss ws h.1)

  module _ (seats takers : List S) (giver : S) (split : seats ≡ takers ++ giver ∷ []) (crew : IsCrewOf is_seat permits known queue seats)
      (tasks : List T) (slots : List (Option (Outcome T A))) (new : slots ≡ replicate (length tasks) None) (led : Led S T A) (workers : List (Worked S (Vec (Done A))))
      (leads : HasLed is_seat known shut_cause answers queue tasks giver slots led) (back : AllZip (IsBack is_seat known pop_cause answers queue) takers workers)
      (rest : RestOf (Numbered T)) (closed : ClosesOf (permits queue) (map known (led.seat ∷ map seat_in workers)) rest) where
    abbrev g : KnownOf (Numbered T)
    g = known led.seat

    abbrev ks : List (KnownOf (Numbered T))
    ks = map known (map seat_in workers)

    abbrev dss : List (List (Done A))
    dss = map (λ (w : Worked S (Vec (Done A))). w.done.items) workers

    unused_at : (k : ℕ) (s : S) → slice_get (takers ++ giver ∷ []) k ≡ Some s → ((known s).number ≡ k + 1) × ((known s).mine ≡ [])
    unused_at k s at = crew.unused k s (subst (λ ss. slice_get ss k ≡ Some s) (sym split) at)

    giver_is : ((known giver).number ≡ length takers + 1) × ((known giver).mine ≡ [])
    giver_is = unused_at (length takers) giver (place-last takers giver)

    taker_is : (s : S) → Lies s takers → (known s).mine ≡ []
    taker_is s lies = let p = place_of s takers lies in (unused_at p.0 s (place-left takers (giver ∷ []) p.0 s p.1)).1

    pushes : Pushes g leads.offered.pushed
    pushes =
        let m = known leads.middle in
        let o = leads.offered in
        let none = giver_is.1 in
        let same = sym leads.number in
        let shuts = shuts_of m g led.unshut leads.shut in
        record { shuts = shuts.0; mine = shuts.1 ∙ ap (λ (ds : List (Deed (Numbered T))). ds ++ map did_shut shuts.0) (o.mine ∙ (λ i. none i ++ map (did_push (same i)) o.pushed)) }

    pops : AllZip (Pops (OfItem answers)) ks dss
    pops = pops_of takers workers back taker_is

    -- these are all seats of the queue
    count : length (permits queue) ≡ length takers + 1
    count =
        let c = crew.count in
        let s = ap length split in
        let l = length-append takers (giver ∷ []) in
        omega (arith, c, s, l)

    at_place : (m : ℕ) → m < length takers → IsSomeAnd (slice_get ks m) (λ k. k.number ≡ suc m)
    at_place m low =
        let e = element_at takers m low in
        let n = (unused_at m e.0 (place-left takers (giver ∷ []) m e.0 e.1)).0 in
        let same : (known e.0).number ≡ suc m = omega (arith, n) in
        subst (λ i. IsSomeAnd (slice_get ks m) (λ k. k.number ≡ i)) same (numbers_of takers workers back m e.0 e.1)

    every : AreAllOf (permits queue) (g ∷ ks)
    every zero low high = absurd (omega (arith, low))
    every (suc m) low high =
        let c = count in
        let few : m ≤ length takers = omega (arith, high, c) in
        elim (eq-or-lt_of_le few) [
          | inl e ↦ (0, (let n = leads.number in let l = giver_is.0 in omega (arith, e, n, l)))
          | inr less ↦ (suc m, at_place m less)
        ]

    theirs : All (IsOfOneOf (g ∷ ks)) closed.history
    theirs = closed.theirs (closed.all every)

    -- what is told is what the submitter's, the workers' and the left tasks tell
    abbrev all_filled : List (Option (Outcome T A))
    all_filled = telling.filled answers tasks g ks leads.offered.pushed leads.offered.ran dss pushes pops leads.offered.of leads.offered.answered
        leads.offered.each closed.history (was_shut_in rest) (left_in rest) closed.runs closed.own theirs

    same_told : told_of (slots_in led.gather) (map done_in workers) (left_in rest) ≡ all_filled
    same_told =
        let ran = map told_done leads.offered.ran in
        let none : List (Option (Outcome T A)) = replicate (length tasks) None in
        let done : List (ℕ × Outcome T A) = flat_map (λ (ds : List (Done A)). map told_done ds) dss in
        let lefts : List (ℕ × Outcome T A) = map told_left (left_in rest) in
        (λ i. fills (fills ((leads.offered.put ∙ ap (λ ss. fills ss ran) new) i) (tells-lists workers i)) lefts)
        ∙ sym (fills-append (fills none ran) done lefts)
        ∙ sym (fills-append none ran (done ++ lefts))

    long : length (slots_in led.gather) ≡ length tasks
    long =
        ap length (leads.offered.put ∙ ap (λ ss. fills ss (map told_done leads.offered.ran)) new)
        ∙ length-fills (replicate (length tasks) None) (map told_done leads.offered.ran)
        ∙ length-replicate (length tasks) None

    low_done : (w : Worked S (Vec (Done A))) → Lies w workers → (d : Done A) → Lies d w.done.items → d.number < length (slots_in led.gather)
    low_done w seat d lies =
        let t = telling.of_done answers tasks g ks leads.offered.pushed leads.offered.ran dss pushes pops leads.offered.of leads.offered.answered
        leads.offered.each closed.history (was_shut_in rest) (left_in rest) closed.runs closed.own theirs
        w.done.items d (lies-map (λ (w : Worked S (Vec (Done A))). w.done.items) w workers seat) lies in
        subst (λ n. d.number < n) (sym long) (place_low tasks d.number t.task t.at)

    low_left : (x : ItemOf (Numbered T)) → Lies x (left_in rest) → x.value.number < length (slots_in led.gather)
    low_left x lies =
        let t = telling.of_left answers tasks g ks leads.offered.pushed leads.offered.ran dss pushes pops leads.offered.of leads.offered.answered
        leads.offered.each closed.history (was_shut_in rest) (left_in rest) closed.runs closed.own theirs x lies in
        subst (λ n. x.value.number < n) (sym long) (place_low tasks x.value.number t.task t.at)

    -- each slot can be filled
    pub can_tell : CanTell (slots_in led.gather) (map done_in workers) (left_in rest)
    can_tell =
        record {
          dones_within = All-map (λ (ds : Vec (Done A)). All (λ (d : Done A). d.number < length (slots_in led.gather)) ds.items) done_in workers
              (all-lies (λ (w : Worked S (Vec (Done A))). All (λ (d : Done A). d.number < length (slots_in led.gather)) w.done.items) workers
              (λ w seat. all-lies (λ (d : Done A). d.number < length (slots_in led.gather)) w.done.items (low_done w seat)));
          left_within = all-lies (λ (x : ItemOf (Numbered T)). x.value.number < length (slots_in led.gather)) (left_in rest) low_left;
          filled = subst (All IsFilled) (sym same_told) (telling.each_filled answers tasks g ks leads.offered.pushed leads.offered.ran dss pushes pops
              leads.offered.of leads.offered.answered leads.offered.each closed.history (was_shut_in rest) (left_in rest) closed.runs closed.own
              theirs);
        }

    -- and then tells of its own task
    pub are_told : (os : List (Outcome T A)) → map (λ o. Some o) os ≡ told_of (slots_in led.gather) (map done_in workers) (left_in rest) → AreTold answers tasks os
    are_told os same = telling.each_told answers tasks g ks leads.offered.pushed leads.offered.ran dss pushes pops leads.offered.of
        leads.offered.answered leads.offered.each closed.history (was_shut_in rest) (left_in rest) closed.runs closed.own theirs os (same ∙ same_told)

    -- where a worker found the queue shut and empty no task is left
    pub none_left : Any IsFinished (map end_in workers) → left_in rest ≡ []
    none_left any =
        let e = any-lies (map end_in workers) any.0 any.1 any.2 any.3 in
        let w = map-lies end_in any.1 workers e in
        let b = zip-right (IsBack is_seat known pop_cause answers queue) takers workers w.0 back w.1 in
        let k : KnownOf (Numbered T) = known w.0.seat in
        let ended : EndsTurn is_seat known pop_cause queue b.2.last w.0.seat Finished =
        subst (EndsTurn is_seat known pop_cause queue b.2.last w.0.seat) (w.2 ∙ any.4) b.2.ended in
        let begins = lies-all (λ (k : KnownOf (Numbered T)). IsPrefix k.seen closed.history) k (g ∷ ks) closed.begins
        (inr (lies-map known w.0.seat (map seat_in workers) (lies-map seat_in w.0 workers w.1))) in
        left_none k.seen closed.history (left_in rest) (was_shut_in rest) begins ended.0.refused.leaves closed.runs

    answered_all : left_in rest ≡ [] → (p : ℕ × Outcome T A) → Lies p (map told_done leads.offered.ran ++
        (flat_map (λ (ds : List (Done A)). map told_done ds) dss ++ map told_left (left_in rest))) → IsAnswered p.1
    answered_all none p lies =
        let ran = map told_done leads.offered.ran in
        let done : List (ℕ × Outcome T A) = flat_map (λ (ds : List (Done A)). map told_done ds) dss in
        elim (lies-cases p ran (done ++ map told_left (left_in rest)) lies) [
          | inl h ↦ (let d = map-lies told_done p leads.offered.ran h in subst (λ (q : ℕ × Outcome T A). IsAnswered q.1) d.2 tt)
          | inr h ↦ elim (lies-cases p done (map told_left (left_in rest)) h) [
            | inl l ↦ (
                let r = flat-lies (λ (ds : List (Done A)). map told_done ds) p dss l in
                let d = map-lies told_done p r.0 r.2 in
                subst (λ (q : ℕ × Outcome T A). IsAnswered q.1) d.2 tt)
            | inr l ↦ absurd (subst (λ (xs : List (ItemOf (Numbered T))). Lies p (map told_left xs)) none l)
          ]
        ]

    -- and then each task is answered
    pub all_answered : Any IsFinished (map end_in workers) → (os : List (Outcome T A)) → map (λ o. Some o) os ≡ told_of (slots_in led.gather) (map done_in workers) (left_in rest) → All IsAnswered os
    all_answered any os same =
        let holds = fills-holds IsAnswered (replicate (length tasks) None) _ (All-replicate (Holds IsAnswered) (length tasks) None tt) (answered_all (none_left any)) in
        holds-all IsAnswered os (subst (All (Holds IsAnswered)) (sym (same ∙ same_told)) holds)
