-- Lists that go on with one item up to a length.
use Rattle.std.proofs.Common.{◌≡◌, ℕ, zero, suc, ◌-◌, ◌<◌, ◌≤◌, get_or, List, [], ◌∷◌, ◌++◌, length, replicate, set, refl, sym, ap, ◌∙◌, append_assoc, arith, length-append}
use Rattle.std.proofs.lemmas.List.{length-replicate}
use Rattle.std.proofs.Math.ListN.{length-set}
use Rattle.std.proofs.lemmas.List.{set-append_left}
use Rattle.line_steps.specs.Rooms.{padded}

-- an item set within the list is set in the list that goes on
pub padded-set : {X : Type 0} (size : ℕ) (x : X) (xs : List X) (k : ℕ) (y : X) → k < length xs → padded size x (set xs k y) ≡ set (padded size x xs) k y
padded-set size x xs k y h =
    ap (λ n. set xs k y ++ replicate (size - n) x) (length-set xs k y) ∙
    sym (set-append_left xs (replicate (size - length xs) x) k y h)

-- one more of the item makes the list longer, and the list that goes on stays as it is
pub padded-push : {X : Type 0} (size : ℕ) (x : X) (xs : List X) → length xs < size → padded size x (xs ++ x ∷ []) ≡ padded size x xs
padded-push size x xs h =
    let e : size - length (xs ++ x ∷ []) ≡ size - suc (length xs) = simp length-append (omega arith) in
    let f : size - length xs ≡ suc (size - suc (length xs)) = omega arith in
    ap (λ n. (xs ++ x ∷ []) ++ replicate n x) e ∙ append_assoc xs (x ∷ []) _ ∙ ap (λ n. xs ++ replicate n x) (sym f)

-- a list that is shorter than the list that goes on is shorter than the length
pub short-padded : {X : Type 0} (size : ℕ) (x : X) (xs : List X) → length xs < length (padded size x xs) → length xs < size
short-padded size x xs h = omega (arith, length-append xs (replicate (size - length xs) x), length-replicate (size - length xs) x)

replicate-get : {X : Type 0} (m k : ℕ) (x : X) → get_or (replicate m x) k x ≡ x
replicate-get zero k x = refl
replicate-get (suc m) zero x = refl
replicate-get (suc m) (suc k) x = replicate-get m k x

append-get : {X : Type 0} (xs : List X) (k m : ℕ) (x : X) → get_or (xs ++ replicate m x) k x ≡ get_or xs k x
append-get [] k m x = replicate-get m k x
append-get (y ∷ xs) zero m x = refl
append-get (y ∷ xs) (suc k) m x = append-get xs k m x

-- an item of the list that goes on is that of the list, and the same one behind its end
pub padded-get : {X : Type 0} (size : ℕ) (x : X) (xs : List X) (k : ℕ) → get_or (padded size x xs) k x ≡ get_or xs k x
padded-get size x xs k = append-get xs k (size - length xs) x

-- the list that goes on has the length up to which it goes on
pub length-padded : {X : Type 0} (size : ℕ) (x : X) (xs : List X) → length xs ≤ size → length (padded size x xs) ≡ size
length-padded size x xs h = omega (arith, length-append xs (replicate (size - length xs) x), length-replicate (size - length xs) x)
