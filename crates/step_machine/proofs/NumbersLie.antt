-- Each number that an actor's move took lies in exactly one operation of that actor.
use Rattle.std.proofs.Common.{◌≡◌, ◌≢◌, ℕ, zero, suc, ◌+◌, ◌-◌, ◌<◌, ◌≤◌, ◌⊎◌, inl, inr, List, [], ◌∷◌, ◌++◌, length, map, Option, Some, None, IfSome}
use Rattle.std.proofs.Common.{refl, sym, subst, ap, ◌∙◌, append_assoc, append-nil, arith}
use Rattle.std.specs.Prelude.{slice_get, IsSomeAnd}
use Rattle.std.proofs.lemmas.Option.{none-some, same_Some}
use Rattle.line_table.specs.declared.lines.Line.{Line}
use Rattle.history.specs.declared.operations.Reply.{Reply}
use Rattle.history.specs.declared.operations.Stamped.{Stamped}
use Rattle.line_steps.specs.declared.actors.Setup.{Setup}
use Rattle.line_steps.specs.Actors.{Actor}
use Rattle.line_steps.specs.Outcomes.{Outcome}
use Rattle.line_steps.specs.Memory.{Shared, found, performed}
use Rattle.line_steps.specs.Lines.{action, outcome}
use Rattle.line_steps.specs.Calls.{begun}
use Rattle.step_machine.specs.declared.actors.Move.TheVariants.{Begin, Step, Give}
use Rattle.step_machine.specs.Machine.{World, opening, actor_of, rested, with_actor, last_of, with_outcome, after_outcome, new_operation, AnyMove, made, Rest, run}
use Rattle.step_machine.specs.Stamps.{makers, numbered_by, IsBy, HasNoEffect, EndedBefore}
use Rattle.step_machine.specs.TakingEffect.{OfOperations, OfOperationsOfCalls}
use Rattle.step_machine.specs.Spans.{NumberLiesIn, ComesBeforeNext, IsOfExactlyOne, NumbersLieInOne, NumbersLieInOneBeforeNext}
use Rattle.step_machine.proofs.Reached.{some_of}
use Rattle.step_machine.proofs.StampsLists.{put_cases, same_or_not, slice_get-append_other, slice_get-append_end, by_within}
use Rattle.step_machine.proofs.StampsInvariants.{StampsInvariant, Operations}
use Rattle.step_machine.proofs.StampsMoves.{moves_kept, calls_rest_never}
use Rattle.step_machine.proofs.AnyMoves.{AfterEach}
use Rattle.step_machine.proofs.EachMove.{walked, kept_after, Telling, telling, stood}

-- two numbers stand in one of three ways
pub order : (i j : ℕ) → (i < j) ⊎ ((i ≡ j) ⊎ (j < i))
order zero zero = inr (inl refl)
order zero (suc j) = inl (omega arith)
order (suc i) zero = inr (inr (omega arith))
order (suc i) (suc j) = go (order i j)
  where
    go : (i < j) ⊎ ((i ≡ j) ⊎ (j < i)) → (suc i < suc j) ⊎ ((suc i ≡ suc j) ⊎ (suc j < suc i))
    go (inl x) = inl (omega arith)
    go (inr (inl x)) = inr (inl (ap suc x))
    go (inr (inr x)) = inr (inr (omega arith))

-- who took the numbers once one more move was made
makers_last : (done : List AnyMove) (m : AnyMove) → makers (done ++ m ∷ []) ≡ makers done ++ numbered_by m
makers_last [] m = append-nil (numbered_by m)
makers_last (x ∷ xs) m = ap (λ ks. numbered_by x ++ ks) (makers_last xs m) ∙ sym (append_assoc (numbered_by x) (makers xs) (numbered_by m))

-- a number was taken before the last one, or is that
by_last : (K : List ℕ) (me k you : ℕ) → IsBy (K ++ me ∷ []) k you → IsBy K k you ⊎ ((k ≡ length K + 1) × (me ≡ you))
by_last K me k you b = go (same_or_not (k - 1) (length K))
  where
    go : (k - 1 ≡ length K) ⊎ (k - 1 ≢ length K) → IsBy K k you ⊎ ((k ≡ length K + 1) × (me ≡ you))
    go (inl e) =
        let one : 1 ≤ k = b.from_one in
        inr (omega arith, same_Some me you (sym (slice_get-append_end K me) ∙ ap (λ i. slice_get (K ++ me ∷ []) i) (sym e) ∙ b.own))
    go (inr d) = inl record { from_one = b.from_one; own = sym (slice_get-append_other K (k - 1) me d) ∙ b.own }

-- a number lies in an operation of an actor, and before each later one
pub record Lies (ops : List Stamped) (me k : ℕ) : Type 0 where
  pub place : ℕ
  pub operation : Stamped
  pub there : slice_get ops place ≡ Some operation
  pub own : operation.actor ≡ me
  pub lies : NumberLiesIn k operation
  pub next : (j : ℕ) (p : Stamped) → place < j → slice_get ops j ≡ Some p → p.actor ≡ me → k < p.first

-- each number that was taken does
abbrev pub EachLies : List AnyMove → World → Type 0
EachLies done w = (k me : ℕ) → IsBy (makers done) k me → Lies w.operations me k

-- a move that takes no number
still : (done : List AnyMove) (m : AnyMove) (w v : World) → numbered_by m ≡ [] → v.operations ≡ w.operations → EachLies done w → EachLies (done ++ m ∷ []) v
still done m w v none same h k me b =
    subst (λ ops. Lies ops me k) (sym same)
    (h k me (subst (λ K. IsBy K k me) (makers_last done m ∙ ap (λ ks. makers done ++ ks) none ∙ append-nil (makers done)) b))

not_after : (now k : ℕ) (reply : Option Reply) → k ≤ now → IfSome (last_of now reply) (λ last. k ≤ last)
not_after now k None low = tt
not_after now k (Some reply) low = low

module _ (s : Setup) (n : ℕ) (done : List AnyMove) (w : World) (m : AnyMove) (me : ℕ) (a : Actor) (l : Line) (o : Outcome) (m' : Shared)
    (takes : numbered_by m ≡ me ∷ []) (led : run done (opening s n) ≡ Some w) (is : actor_of w me ≡ Some a) (at_line : a.line ≡ Some l) (h : EachLies done w)
  where
    kept : StampsInvariant (Unit {0}) (makers done) w
    kept = kept_after s n done w led

    it : Telling (makers done) w me a l o (after_outcome w me a m' o).operations
    it = telling (makers done) w me a l o kept is at_line

    -- the number of this move
    new_lies : Lies (after_outcome w me a m' o).operations me (w.steps + 1)
    new_lies =
        record {
          place = it.place;
          operation = with_outcome (w.steps + 1) o it.was;
          there = it.put.here;
          own = it.own;
          lies = (it.low, not_after (w.steps + 1) (w.steps + 1) o.reply (omega arith));
          next = λ j p lt got own. next j p lt own (put_cases it.put j p got);
        }
      where
        next : (j : ℕ) (p : Stamped) → it.place < j → p.actor ≡ me
            → ((j ≡ it.place) × (with_outcome (w.steps + 1) o it.was ≡ p)) ⊎ ((j ≢ it.place) × (slice_get w.operations j ≡ Some p)) → w.steps + 1 < p.first
        next j p lt own (inl q) = absurd (let e : j ≡ it.place = q.0 in omega arith)
        next j p lt own (inr q) = absurd (it.latest j p lt q.1 own)

    -- a number taken before
    module _ (k you : ℕ) (low : k ≤ w.steps) (y : Lies w.operations you k) where
      -- a later operation of the actor begins after the number
      later : (j : ℕ) (p : Stamped) → y.place < j → p.actor ≡ you → ((j ≡ it.place) × (with_outcome (w.steps + 1) o it.was ≡ p)) ⊎ ((j ≢ it.place) × (slice_get w.operations j ≡ Some p)) → k < p.first
      later j p lt own (inl q) = subst (λ (z : Stamped). z.actor ≡ you → k < z.first) q.1 (λ mine. first it.from mine) own
        where
          first : ((a.entry ≡ None) × (it.place ≡ length w.operations) × (it.was ≡ new_operation me a.op (w.steps + 1))) ⊎ ((a.entry ≡ Some it.place) × (slice_get w.operations it.place ≡ Some it.was))
              → it.was.actor ≡ you → k < it.was.first
          first (inl new) mine = omega (arith, ap (λ (z : Stamped). z.first) new.2)
          first (inr old) mine = y.next it.place it.was (let e : j ≡ it.place = q.0 in omega arith) old.1 mine
      later j p lt own (inr q) = y.next j p lt q.1 own

      old_lies : Lies (after_outcome w me a m' o).operations you k
      old_lies = go (same_or_not y.place it.place)
        where
          go : (y.place ≡ it.place) ⊎ (y.place ≢ it.place) → Lies (after_outcome w me a m' o).operations you k
          go (inr other) =
              record {
                place = y.place;
                operation = y.operation;
                there = it.put.others y.place other ∙ y.there;
                own = y.own;
                lies = y.lies;
                next = λ j p lt got own. later j p lt own (put_cases it.put j p got);
              }
          go (inl same) =
              let was : it.was ≡ y.operation = stood it y.place y.operation y.there same in
              record {
                place = it.place;
                operation = with_outcome (w.steps + 1) o it.was;
                there = it.put.here;
                own = ap (λ (z : Stamped). z.actor) was ∙ y.own;
                lies = (subst (λ (z : Stamped). z.first ≤ k) (sym was) y.lies.0, not_after (w.steps + 1) k o.reply (omega arith));
                next = λ j p lt got own. later j p (omega arith) own (put_cases it.put j p got);
              }

    -- a numbered move
    settled_lies : EachLies (done ++ m ∷ []) (after_outcome w me a m' o)
    settled_lies k you b = go (by_last (makers done) me k you (subst (λ K. IsBy K k you) (makers_last done m ∙ ap (λ ks. makers done ++ ks) takes) b))
      where
        go : IsBy (makers done) k you ⊎ ((k ≡ length (makers done) + 1) × (me ≡ you)) → Lies (after_outcome w me a m' o).operations you k
        go (inl old) = old_lies k you (omega (arith, by_within (makers done) k you old, kept.counted)) (h k you old)
        go (inr new) =
            let e : k ≡ w.steps + 1 = omega (arith, new.0, kept.counted) in
            subst (λ j. Lies (after_outcome w me a m' o).operations you j) (sym e) (subst (λ j. Lies (after_outcome w me a m' o).operations j (w.steps + 1)) new.1 new_lies)

-- each move keeps it
each : (s : Setup) (n : ℕ) (done : List AnyMove) (w : World) → run done (opening s n) ≡ Some w → EachLies done w → AfterEach w (λ m v. EachLies (done ++ m ∷ []) v)
each s n done w led h =
    record {
      began = λ me op a is e call. still done (made (Begin me op)) w (with_actor w me (begun w.setup.kind me op a)) refl refl h;
      step = λ me a l is at.
          settled_lies s n done w (made (Step me)) me a l (outcome w.setup (w.steps + 1) me a l (found (action w.setup me a l) w.shared)) (performed (action w.setup me a l) w.shared) refl led is at h;
      gave_up = λ me a l o is at given. settled_lies s n done w (made (Give me)) me a l o w.shared refl led is at h;
      at_rest = λ me a l is at may. still done (Rest me) w (with_actor w me (rested a)) refl refl h;
    }

pub each_lies : (s : Setup) (n : ℕ) (moves : List AnyMove) → IfSome (run moves (opening s n)) (EachLies moves)
each_lies s n moves =
    walked s n EachLies (each s n) (λ k me b. absurd (none-some me b.own)) moves

-- a number that lies in an operation that has ended before isn't there
pub ended_out : (last : Option ℕ) (first k : ℕ) → IsSomeAnd last (λ x. x < first) → IfSome last (λ x. k ≤ x) → first ≤ k → ⊥
ended_out None first k ended low up = omega arith
ended_out (Some x) first k ended low up = omega arith

-- of operations by rising first number, this is the only one in which the number lies
only_before_next : (K : List ℕ) (ops : List Stamped) (me k : ℕ) → Operations (Unit {0}) K ops → Lies ops me k → IsOfExactlyOne ops me (λ o. NumberLiesIn k o × ComesBeforeNext ops k o)
only_before_next K ops me k h y =
    record {
      place = y.place;
      operation = y.operation;
      there = y.there;
      own = y.own;
      holds = (y.lies, λ i p got own after. next i p got own after (order i y.place));
      only = λ i p got own holds. only i p got own holds (order i y.place);
    }
  where
    next : (i : ℕ) (p : Stamped) → slice_get ops i ≡ Some p → p.actor ≡ y.operation.actor → y.operation.first < p.first → (i < y.place) ⊎ ((i ≡ y.place) ⊎ (y.place < i)) → k < p.first
    next i p got own after (inl lt) = absurd (let before : p.first < y.operation.first = (h.pairs i y.place p y.operation lt got y.there).0 in omega arith)
    next i p got own after (inr (inl e)) =
        let same : p ≡ y.operation = same_Some p y.operation (sym got ∙ ap (λ j. slice_get ops j) e ∙ y.there) in
        absurd (let z : p.first ≡ y.operation.first = ap (λ (q : Stamped). q.first) same in omega arith)
    next i p got own after (inr (inr lt)) = y.next i p lt got (own ∙ y.own)

    only : (i : ℕ) (p : Stamped) → slice_get ops i ≡ Some p → p.actor ≡ me → NumberLiesIn k p × ComesBeforeNext ops k p → (i < y.place) ⊎ ((i ≡ y.place) ⊎ (y.place < i)) → i ≡ y.place
    only i p got own holds (inl lt) =
        let before : p.first < y.operation.first = (h.pairs i y.place p y.operation lt got y.there).0 in
        let out : k < y.operation.first = holds.1 y.place y.operation y.there (y.own ∙ sym own) before in
        absurd (let in_it : y.operation.first ≤ k = y.lies.0 in omega arith)
    only i p got own holds (inr (inl e)) = e
    only i p got own holds (inr (inr lt)) =
        let out : k < p.first = y.next i p lt got own in
        absurd (let in_it : p.first ≤ k = holds.0.0 in omega arith)

-- where no actor rests, each operation has ended before the next one of its actor
only_one : (K : List ℕ) (ops : List Stamped) (me k : ℕ) → Operations ⊥ K ops → Lies ops me k → IsOfExactlyOne ops me (NumberLiesIn k)
only_one K ops me k h y =
    record {
      place = y.place;
      operation = y.operation;
      there = y.there;
      own = y.own;
      holds = y.lies;
      only = λ i p got own lies. only i p got own lies (order i y.place);
    }
  where
    ended : (p : Stamped) (first : ℕ) → EndedBefore p first ⊎ (⊥ × HasNoEffect p) → EndedBefore p first
    ended p first (inl e) = e
    ended p first (inr r) = absurd r.0

    only : (i : ℕ) (p : Stamped) → slice_get ops i ≡ Some p → p.actor ≡ me → NumberLiesIn k p → (i < y.place) ⊎ ((i ≡ y.place) ⊎ (y.place < i)) → i ≡ y.place
    only i p got own lies (inl lt) =
        absurd (ended_out p.last y.operation.first k (ended p y.operation.first ((h.pairs i y.place p y.operation lt got y.there).1 (own ∙ sym y.own))) lies.1 y.lies.0)
    only i p got own lies (inr (inl e)) = e
    only i p got own lies (inr (inr lt)) =
        let out : k < p.first = y.next i p lt got own in
        absurd (let in_it : p.first ≤ k = lies.0 in omega arith)

pub numbers_lie_in_one_before_next : OfOperations NumbersLieInOneBeforeNext
numbers_lie_in_one_before_next s n moves = on (run moves (opening s n)) refl (each_lies s n moves)
  where
    on : (o : Option World) → run moves (opening s n) ≡ o → IfSome o (EachLies moves) → IfSome o (λ w. NumbersLieInOneBeforeNext s n moves w.operations)
    on None e h = tt
    on (Some w) e h = λ k me b. only_before_next (makers moves) w.operations me k (kept_after s n moves w e).operations (h k me b)

pub numbers_lie_in_one : OfOperationsOfCalls NumbersLieInOne
numbers_lie_in_one s n moves = on (run (map made moves) (opening s n)) refl (each_lies s n (map made moves))
  where
    on : (o : Option World) → run (map made moves) (opening s n) ≡ o → IfSome o (EachLies (map made moves)) → IfSome o (λ w. NumbersLieInOne s n (map made moves) w.operations)
    on None e h = tt
    on (Some w) e h =
        let kept : StampsInvariant ⊥ (makers (map made moves)) w = some_of (StampsInvariant ⊥ (makers (map made moves)))
        (run (map made moves) (opening s n)) w e (moves_kept ⊥ s n (map made moves) (calls_rest_never moves)) in
        λ k me b. only_one (makers (map made moves)) w.operations me k kept.operations (h k me b)
