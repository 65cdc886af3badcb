-- The rows of a list that are still to come.
use Rattle.std.proofs.Common.{◌≡◌, ℕ, ◌+◌, ◌<◌, List, ◌∷◌, ◌++◌, length, map, drop, get_or, refl, ap, ◌∙◌, add-one}
use Rattle.std.proofs.Math.Seq.{drop-cons}
use Rattle.std.specs.List.{flat_map}
use Rattle.std.proofs.lemmas.List.Concat.{flat_map-cons}

-- the row of the element at a place, and those after it
pub rows_from : {X Y : Type 0} (f : Y → List ℕ) (g : X → Y) (xs : List X) (i : ℕ) (x : X) → i < length xs → x ≡ get_or xs i x
    → flat_map f (map g (drop i xs)) ≡ f (g x) ++ flat_map f (map g (drop (i + 1) xs))
rows_from f g xs i x l e =
    let d : drop i xs ≡ x ∷ drop (i + 1) xs = rw (add-one, drop-cons xs i x l, ← e) refl in
    ap (λ ys. flat_map f (map g ys)) d ∙ flat_map-cons f (g x) (map g (drop (i + 1) xs))
