-- The laws of the stamps, from what each list of moves keeps.
use Rattle.std.proofs.Common.{◌≡◌, ◌≢◌, ℕ, suc, ◌<◌, ◌≤◌, ◌⊎◌, inl, inr, List, [], ◌∷◌, length, map, Option, Some, None, IfSome, get_or, refl, sym, subst, ◌∙◌, arith}
use Rattle.std.specs.Prelude.{slice_get, IsSomeAnd, AllPairs}
use Rattle.std.specs.List.{AllByRecursion}
use Rattle.std.proofs.lemmas.Option.{none-some, IfSome_then, slice_get-get_or}
use Rattle.step_machine.specs.Below.{Stamped, IsPlaced, AreApart, Placement}
use Rattle.step_machine.specs.Machine.{World, opening, AnyMove, made, run}
use Rattle.step_machine.specs.Stamps.{makers, IsBy, IsStamped, HasNoEffect, BeginsBefore, EndedBefore, DoNotOverlap, DoNotOverlapOrRest, AfterMoves, AfterCalls}
use Rattle.step_machine.proofs.StampsLists.{by_one, all_of}
use Rattle.step_machine.proofs.StampsInvariants.{Precedes, StampsInvariant}
use Rattle.step_machine.proofs.StampsMoves.{moves_kept, may_rest_all, calls_rest_never}

-- a fact of the elements at two places is one of all pairs
pairs_of : {X : Type 0} (R : X → X → Type 0) (xs : List X) → ((i j : ℕ) (o p : X) → i < j → slice_get xs i ≡ Some o → slice_get xs j ≡ Some p → R o p) → AllPairs R xs
pairs_of R xs h i j d lt low =
    h i j (get_or xs i d) (get_or xs j d) lt (slice_get-get_or xs i d (omega arith)) (slice_get-get_or xs j d low)

-- what holds of each world that any moves lead to
after_moves : (P : List AnyMove → World → Type 0) → ((moves : List AnyMove) (w : World) → StampsInvariant (Unit {0}) (makers moves) w → P moves w) → AfterMoves P
after_moves P each s actors moves =
    IfSome_then (run moves (opening s actors)) (moves_kept (Unit {0}) s actors moves (may_rest_all moves)) (each moves)

-- what holds of each world that moves without a rest lead to
after_calls : (P : World → Type 0) → ((K : List ℕ) (w : World) → StampsInvariant ⊥ K w → P w) → AfterCalls P
after_calls P each s actors moves =
    IfSome_then (run (map made moves) (opening s actors)) (moves_kept ⊥ s actors (map made moves) (calls_rest_never moves)) (each (makers (map made moves)))

pub numbers_are_counted : AfterMoves (λ moves w. w.steps ≡ length (makers moves))
numbers_are_counted = after_moves _ (λ moves w h. h.counted)

pub stamps_are_of_own_moves : AfterMoves (λ moves w. AllByRecursion (IsStamped (makers moves)) w.operations)
stamps_are_of_own_moves = after_moves _ (λ moves w h. all_of _ w.operations h.operations.each)

pub operations_stand_by_first_number : AfterMoves (λ moves w. AllPairs BeginsBefore w.operations)
operations_stand_by_first_number =
    after_moves _ (λ moves w h. pairs_of BeginsBefore w.operations (λ i j o p lt got more. (h.operations.pairs i j o p lt got more).0))

or_rest : (o p : Stamped) → Precedes (Unit {0}) o p → DoNotOverlapOrRest o p
or_rest o p h same = go (h.1 same)
  where
    go : EndedBefore o p.first ⊎ (Unit {0} × HasNoEffect o) → EndedBefore o p.first ⊎ HasNoEffect o
    go (inl ended) = inl ended
    go (inr left) = inr left.1

no_rest : (o p : Stamped) → Precedes ⊥ o p → DoNotOverlap o p
no_rest o p h same = go (h.1 same)
  where
    go : EndedBefore o p.first ⊎ (⊥ × HasNoEffect o) → EndedBefore o p.first
    go (inl ended) = ended
    go (inr left) = absurd left.0

pub operations_do_not_overlap : AfterCalls (λ w. AllPairs DoNotOverlap w.operations)
operations_do_not_overlap =
    after_calls _ (λ K w h. pairs_of DoNotOverlap w.operations (λ i j o p lt got more. no_rest o p (h.operations.pairs i j o p lt got more)))

pub operations_do_not_overlap_or_rest : AfterMoves (λ moves w. AllPairs DoNotOverlapOrRest w.operations)
operations_do_not_overlap_or_rest =
    after_moves _ (λ moves w h. pairs_of DoNotOverlapOrRest w.operations (λ i j o p lt got more. or_rest o p (h.operations.pairs i j o p lt got more)))

-- an operation that has ended before another one begins has another place
places_differ : (o p : Stamped) (n : ℕ) → IfSome o.last (λ last. n ≤ last) → p.first ≤ n → EndedBefore o p.first → ⊥
places_differ o p n not_after not_before = go o.last not_after
  where
    go : (last : Option ℕ) → IfSome last (λ k. n ≤ k) → IsSomeAnd last (λ k. k < p.first) → ⊥
    go None low ended = ended
    go (Some k) low ended = omega arith

-- two operations of which the first precedes the other don't share a place
pub apart : (K : List ℕ) (o p : Stamped) → IsStamped K o → IsStamped K p → Precedes (Unit {0}) o p → (n : ℕ) → o.at ≡ Some n → p.at ≢ Some n
apart K o p h g pre n e f = go (pre.1 (by_one K n o.actor p.actor (subst (λ z. IfSome z (λ k. IsBy K k o.actor)) e h.at_own) (subst (λ z. IfSome z (λ k. IsBy K k p.actor)) f g.at_own)))
  where
    go : EndedBefore o p.first ⊎ (Unit {0} × HasNoEffect o) → ⊥
    go (inl ended) =
        places_differ o p n
        (subst (λ z. IfSome z (λ k. IfSome o.last (λ last. k ≤ last))) e h.placed.not_after)
        (subst (λ z. IfSome z (λ k. p.first ≤ k)) f g.placed.not_before)
        ended
    go (inr left) = none-some n (sym left.1.no_place ∙ e)

-- so no two operations of a list share one
all_apart : (K : List ℕ) (ops : List Stamped) → ((i : ℕ) (o : Stamped) → slice_get ops i ≡ Some o → IsStamped K o)
    → ((i j : ℕ) (o p : Stamped) → i < j → slice_get ops i ≡ Some o → slice_get ops j ≡ Some p → Precedes (Unit {0}) o p) → AreApart ops
all_apart K [] each pairs = tt
all_apart K (o ∷ os) each pairs =
    (go o.at refl, all_apart K os (λ i p got. each (suc i) p got) (λ i j p q lt got more. pairs (suc i) (suc j) p q (omega arith) got more))
  where
    go : (at : Option ℕ) → o.at ≡ at → IfSome at (λ n. AllByRecursion (λ p. p.at ≢ Some n) os)
    go None e = tt
    go (Some n) e =
        all_of _ os (λ j p got. apart K o p (each 0 o refl) (each (suc j) p got) (pairs 0 (suc j) o p (omega arith) refl got) n e)

pub histories_are_placed : AfterMoves (λ moves w. Placement w.operations)
histories_are_placed =
    after_moves _
    (λ moves w h. record {
      each = all_of IsPlaced w.operations (λ i o got. (h.operations.each i o got).placed);
      apart = all_apart (makers moves) w.operations h.operations.each h.operations.pairs;
    })
