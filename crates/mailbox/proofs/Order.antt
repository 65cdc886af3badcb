-- A queue gives each sender's values in the order in which that sender pushed them.
use Rattle.std.proofs.Common.{◌≡◌, ◌∙◌, sym, ap, subst, ℕ, List, ◌++◌, map}
use Rattle.std.proofs.lemmas.List.{map-append}
use Rattle.std.proofs.lemmas.List.Elements.{filter-append}
use Rattle.history.specs.declared.operations.Taken.{Taken}
use Rattle.history.specs.Seats.{Permit, Known, IsSound}
use Rattle.history.specs.Values.{popped, OnlyPops}
use Rattle.history.proofs.Values.{pushed-Leads, popped-alone}
use Rattle.mailbox.specs.Deliveries.{bodies_from, InOrder}

-- the bodies of one seat's values of two lists are those of the one and then those of the other
bodies_from-append : (s : ℕ) (xs ys : List Taken) → bodies_from s (xs ++ ys) ≡ bodies_from s xs ++ bodies_from s ys
bodies_from-append s xs ys = ap (map (λ (v : Taken). v.body)) (filter-append _ xs ys) ∙ map-append _ _ _

-- what was taken of each sender is a prefix of what it sent
pub in_order : (permits : List Permit) (k : Known) → IsSound permits k → OnlyPops permits k.number → InOrder k
in_order permits k sound only s =
    let left = sound.legal.0.values in
    let plays = pushed-Leads k.seen sound.legal.0.shut left sound.legal.1 in
    (bodies_from s left, ap (λ t. bodies_from s t ++ bodies_from s left) (popped-alone permits k sound only) ∙ sym (bodies_from-append s (popped k.seen) left) ∙ ap (bodies_from s) (sym plays))

-- the same after a call
pub in_order-after : (permits : List Permit) (k k' : Known) → k'.number ≡ k.number → OnlyPops permits k.number → IsSound permits k' → InOrder k'
in_order-after permits k k' same only sound = in_order permits k' sound (λ n may. only n may ∙ sym same)

-- the same after a call, and what then left the seat as it was
pub in_order-then : {S : Type 0} (known : S → Known) (permits : List Permit) (s s' s'' : S) → s'' ≡ s' → (known s').number ≡ (known s).number
    → OnlyPops permits (known s).number → IsSound permits (known s') → InOrder (known s'')
in_order-then known permits s s' s'' kept same only sound =
    subst (λ t. InOrder (known t)) (sym kept) (in_order-after permits (known s) (known s') same only sound)
