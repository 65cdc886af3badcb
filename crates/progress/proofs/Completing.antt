-- The operations are at most as many as those that are complete, the actors and the rests; so the steps are few for those
-- that are complete.
use Rattle.std.proofs.Common.{◌≡◌, ℕ, ◌+◌, ◌-◌, ◌*◌, ◌≤◌, List, [], ◌∷◌, ◌++◌, length, set, get_or, slice_get, Option, Some, None, IfSome, refl, sym, ap, ◌∙◌, subst, arith, length-append}
use Rattle.std.proofs.Math.Nat.{mul-le-mul_left}
use Rattle.std.proofs.Math.ListN.{length-set, length-replicate}
use Rattle.std.proofs.lemmas.List.Sums.{sum_by_push, sum_by-le}
use Rattle.std.proofs.lemmas.Option.{get_or_from_slice_get}
use Rattle.std.specs.List.{sum_by}
use Rattle.step_machine.specs.Below.{Line, Reply, Stamped, Setup, Actor, Outcome, Shared, performed, found, action, outcome, gives_up, begun}
use Rattle.step_machine.specs.Machine.{World, idle, opening, actor_of, rested, with_actor, entry_or, with_operation, with_outcome, new_operation, after_outcome, AnyMove, made, Rest, run}
use Rattle.step_machine.specs.Stamps.{makers}
use Rattle.step_machine.proofs.Reached.{actor_stands, some_of, if_some}
use Rattle.step_machine.proofs.LegalMoves.{begun_entry}
use Rattle.step_machine.proofs.StampsLines.{PointAt, point_at_while, GoesOn, Turns, turned, given_turned}
use Rattle.step_machine.proofs.StampsInvariants.{OperationAt, StampsInvariant}
use Rattle.step_machine.proofs.EachMove.{walked, kept_after}
use Rattle.progress.specs.Moves.{replied, completed, is_rest, rests, steps_unheld}
use Rattle.progress.specs.Steps.{KeepsCompleting, KeepsCompletingUnheld}
use Rattle.progress.proofs.Sums.{sum_set}
use Rattle.progress.proofs.Steps.{few_numbered}
use Rattle.progress.proofs.LockedSteps.{few_find_no_lock_held}

-- 1 for an actor whose call has a number
abbrev in_call : Option Line → Option ℕ → ℕ
in_call None entry = 0
in_call (Some l) None = 0
in_call (Some l) (Some entry) = 1

in_call_most : (l : Option Line) (entry : Option ℕ) → in_call l entry ≤ 1
in_call_most None entry = omega arith
in_call_most (Some l) None = omega arith
in_call_most (Some l) (Some entry) = omega arith

no_entry : (l : Option Line) → in_call l None ≡ 0
no_entry None = refl
no_entry (Some l) = refl

abbrev in_calls : World → ℕ
in_calls w = sum_by (λ a. in_call a.line a.entry) w.actors

-- a call that goes on has no reply, and one that ends has one
one_of : (line : Option Line) (reply due : Option Reply) (at : Option ℕ) (Noted : Type 0) (entry : ℕ) → GoesOn line reply due at Noted → 1 ≤ replied reply + in_call line (Some entry)
one_of None None due at Noted entry h = absurd h
one_of None (Some reply) due at Noted entry h = omega arith
one_of (Some l) None due at Noted entry h = omega arith
one_of (Some l) (Some reply) due at Noted entry h = absurd h

trivial : (o : Option ℕ) → IfSome o (λ k. Unit {0})
trivial None = tt
trivial (Some k) = tt

rests_more : (done : List AnyMove) (m : AnyMove) → rests (done ++ m ∷ []) ≡ rests done + is_rest m
rests_more done m = sum_by_push is_rest done m

-- the operations are at most those that are complete, those under way, and those that rest
abbrev Covers : (rested : ℕ) → World → Type 0
Covers r w = length w.operations ≤ completed w + in_calls w + r

module _ (K : List ℕ) (w : World) (kept : StampsInvariant (Unit {0}) K w) (r : ℕ) (h : Covers r w) (me : ℕ) (a : Actor) (is : actor_of w me ≡ Some a) where
  got : slice_get w.actors (me - 1) ≡ Some a
  got = (actor_stands w me a is).1

  told : (l : Line) (m' : Shared) (o : Outcome) → a.line ≡ Some l → ((at : Option ℕ) → PointAt l a.due at (Unit {0}) → Turns (λ k. Unit {0}) at o) → Covers r (after_outcome w me a m' o)
  told l m' o at turns = go a.entry refl (subst (λ x. OperationAt (Unit {0}) K w.operations me x a.entry a.due a.empty_at) at (kept.actors me a is))
    where
      b : Actor
      b = record o.actor { entry = Some (entry_or a.entry (length w.operations)) }

      told_to : Stamped → Stamped
      told_to = with_outcome (w.steps + 1) o

      new : Stamped
      new = new_operation me a.op (w.steps + 1)

      go : (entry : Option ℕ) → a.entry ≡ entry → OperationAt (Unit {0}) K w.operations me (Some l) entry a.due a.empty_at → Covers r (after_outcome w me a m' o)
      go None e knows =
          let one : 1 ≤ replied o.reply + in_call o.actor.line (Some (entry_or a.entry (length w.operations))) =
          one_of o.actor.line o.reply o.actor.due _ _ _ (turns None (point_at_while l a.due None (λ no. absurd no) knows.1)).goes_on in
          let ops : with_operation a.entry new told_to w.operations ≡ w.operations ++ told_to new ∷ [] = ap (λ x. with_operation x new told_to w.operations) e in
          let more : length (with_operation a.entry new told_to w.operations) ≡ length w.operations + 1 = ap length ops ∙ length-append w.operations (told_to new ∷ []) in
          let replies : sum_by (λ (x : Stamped). replied x.reply) (with_operation a.entry new told_to w.operations) ≡ completed w + replied o.reply =
          ap (sum_by (λ (x : Stamped). replied x.reply)) ops ∙ sum_by_push (λ (x : Stamped). replied x.reply) w.operations (told_to new) in
          let calls : sum_by (λ (x : Actor). in_call x.line x.entry) (set w.actors (me - 1) b) + in_call a.line a.entry ≡ in_calls w + in_call b.line
          b.entry = sum_set (λ (x : Actor). in_call x.line x.entry) w.actors (me - 1) a b got in
          omega (arith, h, one, more, replies, calls, ap (λ x. in_call a.line x) e ∙ no_entry a.line)
      go (Some k) e knows =
          let one : 1 ≤ replied o.reply + in_call o.actor.line (Some (entry_or a.entry (length w.operations))) =
          one_of o.actor.line o.reply o.actor.due _ _ _ (turns knows.0.at (point_at_while l a.due knows.0.at (λ own. tt) knows.2)).goes_on in
          let ops : with_operation a.entry new told_to w.operations ≡ set w.operations k (told_to knows.0) =
          ap (λ x. with_operation x new told_to w.operations) e ∙ ap (λ x. set w.operations k (told_to x))
          (get_or_from_slice_get w.operations k knows.0 new knows.1.here) in
          let more : length (with_operation a.entry new told_to w.operations) ≡ length w.operations = ap length ops ∙ length-set w.operations k (told_to knows.0) in
          let replies : sum_by (λ (x : Stamped). replied x.reply) (with_operation a.entry new told_to w.operations) + replied knows.0.reply ≡
          completed w + replied o.reply = ap (λ xs. sum_by (λ (x : Stamped). replied x.reply) xs + replied knows.0.reply) ops ∙ sum_set
          (λ (x : Stamped). replied x.reply) w.operations k knows.0 (told_to knows.0) knows.1.here in
          let calls : sum_by (λ (x : Actor). in_call x.line x.entry) (set w.actors (me - 1) b) + in_call a.line a.entry ≡ in_calls w + in_call b.line
          b.entry = sum_set (λ (x : Actor). in_call x.line x.entry) w.actors (me - 1) a b got in
          omega (arith, h, one, more, replies, calls, in_call_most a.line a.entry, ap replied knows.1.no_reply)

  -- an actor that begins a call, and one that rests
  begins : (b : Actor) → a.line ≡ None → b.entry ≡ None → Covers r (with_actor w me b)
  begins b none new =
      let calls : sum_by (λ (x : Actor). in_call x.line x.entry) (set w.actors (me - 1) b) + in_call a.line a.entry ≡ in_calls w + in_call b.line
      b.entry = sum_set (λ (x : Actor). in_call x.line x.entry) w.actors (me - 1) a b got in
      omega (arith, h, calls, ap (λ x. in_call x a.entry) none)

  rest : (b : Actor) → Covers (r + 1) (with_actor w me b)
  rest b =
      let calls : sum_by (λ (x : Actor). in_call x.line x.entry) (set w.actors (me - 1) b) + in_call a.line a.entry ≡ in_calls w + in_call b.line
      b.entry = sum_set (λ (x : Actor). in_call x.line x.entry) w.actors (me - 1) a b got in
      omega (arith, h, calls, in_call_most a.line a.entry)

-- after every list of moves, with as many actors as at the start
abbrev Covered : (n rested : ℕ) → World → Type 0
Covered n r w = Covers r w × (length w.actors ≡ n)

pub covered : (s : Setup) (n : ℕ) (moves : List AnyMove) → IfSome (run moves (opening s n)) (Covered n (rests moves))
covered s n moves =
    walked s n (λ done w. Covered n (rests done) w)
    (λ done w led h. record {
      began = λ me op a is at call. (
        subst (λ k. Covers k (with_actor w me (begun w.setup.kind me op a))) (sym (rests_more done (made _)))
            (begins (makers done) w (kept_after s n done w led) (rests done + 0) (omega (arith, h.0)) me a is (begun w.setup.kind me op a) at
            (begun_entry w.setup.kind me op a)),
        length-set w.actors (me - 1) _ ∙ h.1,
      );
      step = λ me a l is at. (
        subst (λ k. Covers k (after_outcome w me a (performed (action w.setup me a l) w.shared)
            (outcome w.setup (w.steps + 1) me a l (found (action w.setup me a l) w.shared)))) (sym (rests_more done (made _)))
            (told (makers done) w (kept_after s n done w led) (rests done + 0) (omega (arith, h.0)) me a is l
            (performed (action w.setup me a l) w.shared) (outcome w.setup (w.steps + 1) me a l (found (action w.setup me a l) w.shared)) at
            (λ p q. turned (λ k. Unit {0}) w.setup (w.steps + 1) me a l (found (action w.setup me a l) w.shared) p tt (trivial p) q)),
        length-set w.actors (me - 1) _ ∙ h.1,
      );
      gave_up = λ me a l o is at given. (
        subst (λ k. Covers k (after_outcome w me a w.shared o)) (sym (rests_more done (made _)))
            (told (makers done) w (kept_after s n done w led) (rests done + 0) (omega (arith, h.0)) me a is l w.shared o at
            (λ p q. some_of (Turns (λ k. Unit {0}) p) (gives_up (w.steps + 1) a l) o given
            (given_turned (λ k. Unit {0}) (w.steps + 1) a l p tt (trivial p) q))),
        length-set w.actors (me - 1) _ ∙ h.1,
      );
      at_rest = λ me a l is at may. (
        subst (λ k. Covers k (with_actor w me (rested a))) (sym (rests_more done (Rest me))) (rest (makers done) w (kept_after s n done w led) (rests done) h.0 me a is (rested a)),
        length-set w.actors (me - 1) _ ∙ h.1,
      );
    })
    (omega arith, length-replicate n idle) moves

-- so the operations are at most those complete, one for each actor, and the rests
few_operations : (n r : ℕ) (w : World) → Covered n r w → length w.operations ≤ completed w + n + r
few_operations n r w h =
    let calls : in_calls w ≤ length w.actors * 1 = sum_by-le (λ a. in_call a.line a.entry) 1 w.actors (λ i d _. in_call_most (get_or w.actors i d).line (get_or w.actors i d).entry) in
    omega (arith, h.0, h.1, calls)

-- so a bound for each operation is one for each that is complete
module _ (s : Setup) (n most : ℕ) (moves : List AnyMove) (count : World → ℕ) where
  pub by_completed : IfSome (run moves (opening s n)) (λ w. count w ≤ most * length w.operations) → IfSome (run moves (opening s n)) (λ w. count w ≤ most * (completed w + n + rests moves))
  by_completed few =
      if_some (λ w. count w ≤ most * (completed w + n + rests moves)) (run moves (opening s n))
      (λ w led. let c : Covered n (rests moves) w = some_of (Covered n (rests moves)) (run moves (opening s n)) w led (covered s n moves) in
      omega (arith, some_of (λ v. count v ≤ most * length v.operations) (run moves (opening s n)) w led few, mul-le-mul_left most (few_operations n (rests moves) w c)))

pub keeps_completing : KeepsCompleting 8 3
keeps_completing s n moves sized e = by_completed s n (8 * n + 3) moves (λ w. w.steps) (few_numbered s n moves sized e)

pub keeps_completing_unheld : KeepsCompletingUnheld 8 4
keeps_completing_unheld s n moves sized e = by_completed s n (8 * n + 4) moves (λ w. steps_unheld moves (opening s n)) (few_find_no_lock_held s n moves sized e)
