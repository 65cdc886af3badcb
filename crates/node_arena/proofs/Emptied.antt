-- The slots of a table are emptied one after another.
use Rattle.std.proofs.Common.{◌≡◌, ℕ, ◌+◌, ◌<◌, Bool, true, false, nat_eq, zero, suc, List, [], ◌∷◌, ◌++◌, length, take, set, get_or, refl, sym, ap, ◌∙◌, arith, eqb-true}
use Rattle.std.proofs.lemmas.Bool.{eqb-false}
use Rattle.std.proofs.lemmas.List.{take_more, get_or-set_other}
use mathlib.Core.Option.{some, some-injective, some-ne-none}
use lib.ListN.{get_elem?}

-- an item that is there has this place
pub got_or : {A : Type 0} (xs : List A) (i : ℕ) (x d : A) → get_elem? xs i ≡ some x → get_or xs i d ≡ x
got_or [] i x d e = absurd (some-ne-none x (sym e))
got_or (y ∷ ys) zero x d e = some-injective y x e
got_or (y ∷ ys) (suc i) x d e = got_or ys i x d e

within : {A : Type 0} (xs : List A) (i : ℕ) (x : A) → get_elem? xs i ≡ some x → i < length xs
within [] i x e = absurd (some-ne-none x (sym e))
within (y ∷ ys) zero x e = omega arith
within (y ∷ ys) (suc i) x e = omega (arith, within ys i x e)

-- one item more was taken
pub took_one : {A : Type 0} (items got : List A) (i : ℕ) (x : A) → got ≡ take i items → get_elem? items i ≡ some x → got ++ x ∷ [] ≡ take (i + 1) items
took_one items got i x so_far e = ap (λ ys. ys ++ x ∷ []) so_far ∙ ap (λ y. take i items ++ y ∷ []) (sym (got_or items i x x e)) ∙ sym (take_more items i x (within items i x e))

set_false : (fs : List Bool) (i : ℕ) → get_or (set fs i false) i false ≡ false
set_false [] i = refl
set_false (f ∷ fs) zero = refl
set_false (f ∷ fs) (suc i) = set_false fs i

-- and its place is empty too
pub cleared : (fs : List Bool) (i k : ℕ) → (k < i → get_or fs k false ≡ false) → k < i + 1 → get_or (set fs i false) k false ≡ false
cleared fs i k before lt = go (nat_eq k i) refl
  where
    go : (b : Bool) → nat_eq k i ≡ b → get_or (set fs i false) k false ≡ false
    go true e = ap (λ j. get_or (set fs i false) j false) (eqb-true k i e) ∙ set_false fs i
    go false e = let other = eqb-false k i e in get_or-set_other fs i k false false other ∙ before (omega (arith, lt, other))
