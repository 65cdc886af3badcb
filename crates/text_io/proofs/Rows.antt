-- Lemmas on a text that is a head and a piece for each element of a list.
use Rattle.std.proofs.Common.{◌≡◌, ℕ, ◌+◌, ◌<◌, ◌≤◌, List, [], ◌∷◌, ◌++◌, length, take, drop, get_or, sym, ap, ◌∙◌, append_assoc, take-append-drop}
use Rattle.std.specs.List.{flat_map}
use Rattle.std.proofs.lemmas.List.{take_more, flat_map_more, take_all}
use Rattle.std.proofs.lemmas.List.Concat.{flat_map-append}

-- one more element, read at its place
pub rows_more : {X : Type 0} (f : X → List ℕ) (head : List ℕ) (xs : List X) (i : ℕ) (x : X) → i < length xs → x ≡ get_or xs i x
    → (head ++ flat_map f (take i xs)) ++ f x ≡ head ++ flat_map f (take (i + 1) xs)
rows_more f head xs i x lt e =
    flat_map_more f head (take i xs) x
    ∙ ap (λ y. head ++ flat_map f (take i xs ++ y ∷ [])) e
    ∙ ap (λ ys. head ++ flat_map f ys) (sym (take_more xs i x lt))

-- the whole is what came before a place, and the rest
pub rows_rest : {X : Type 0} (f : X → List ℕ) (head : List ℕ) (xs : List X) (i : ℕ)
    → (head ++ flat_map f (take i xs)) ++ flat_map f (drop i xs) ≡ head ++ flat_map f xs
rows_rest f head xs i =
    append_assoc head (flat_map f (take i xs)) (flat_map f (drop i xs))
    ∙ ap (λ ys. head ++ ys) (sym (flat_map-append f (take i xs) (drop i xs)) ∙ ap (flat_map f) (take-append-drop i xs))

-- past the last element
pub rows_all : {X : Type 0} (f : X → List ℕ) (head : List ℕ) (xs : List X) (i : ℕ) → length xs ≤ i
    → head ++ flat_map f (take i xs) ≡ head ++ flat_map f xs
rows_all f head xs i le = ap (λ ys. head ++ flat_map f ys) (take_all i xs le)
