-- A list that is sorted by a number, equal ones in an order that is known, is one list alone.
use Rattle.std.proofs.Common.{◌≡◌, ℕ, ◌≤◌, ◌<◌, Bool, true, false, cond, filter, map, get_or, suc, length, List, [], ◌∷◌, refl, sym, ap, ◌∙◌, arith}
use Rattle.std.specs.List.{AllByRecursion}
use Rattle.std.specs.List.Sorted.{IsNonDecreasingBy}

-- a test of what a function gives passes over the list of what it gives
pub filter-map : {X Y : Type 0} (p : Y → Bool) (f : X → Y) (xs : List X) → filter p (map f xs) ≡ map f (filter (λ x. p (f x)) xs)
filter-map p f [] = refl
filter-map p f (x ∷ xs) = go (p (f x)) (filter-map p f xs)
  where
    go : (b : Bool) → filter p (map f xs) ≡ map f (filter (λ x. p (f x)) xs) → cond b (f x ∷ filter p (map f xs)) (filter p (map f xs)) ≡ map f
        (cond b (x ∷ filter (λ x. p (f x)) xs) (filter (λ x. p (f x)) xs))
    go true h = ap (λ r. f x ∷ r) h
    go false h = h

-- no number is above a later one
abbrev pub Ascends : List ℕ → Type 0
Ascends [] = Unit {0}
Ascends (m ∷ ms) = AllByRecursion (λ k. m ≤ k) ms × Ascends ms

all_from : {X : Type 0} (n : X → ℕ) (m : ℕ) (xs : List X) → ((j : ℕ) (d : X) → j < length xs → m ≤ n (get_or xs j d)) → AllByRecursion (λ k. m ≤ k) (map n xs)
all_from n m [] h = tt
all_from n m (x ∷ xs) h = (h 0 x (omega arith), all_from n m xs (λ j d l. h (suc j) d (omega arith)))

-- the numbers of a list that doesn't fall
pub ascends : {X : Type 0} (n : X → ℕ) (xs : List X) → IsNonDecreasingBy n xs → Ascends (map n xs)
ascends n [] h = tt
ascends n (x ∷ xs) h = (
  all_from n (n x) xs (λ j d l. h 0 (suc j) d (omega arith) (omega arith)),
  ascends n xs (λ i j d a l. h (suc i) (suc j) d (omega arith) (omega arith)),
)

module _ {X : Type 0} (n : X → ℕ) (same : ℕ → ℕ → Bool) (yes : (k : ℕ) → same k k ≡ true) (only : (k m : ℕ) → same k m ≡ true → k ≡ m) where
  abbrev those : ℕ → List X → List X
  those k xs = filter (λ x. same k (n x)) xs

  bounded : (m k : ℕ) (xs : List X) (w : X) (ws : List X) → AllByRecursion (λ k. m ≤ k) (map n xs) → those k xs ≡ w ∷ ws → m ≤ k
  bounded m k [] w ws a e = cc e
  bounded m k (x ∷ xs) w ws a e = go (same k (n x)) refl e (bounded m k xs w ws a.1)
    where
      go : (b : Bool) → same k (n x) ≡ b → cond b (x ∷ those k xs) (those k xs) ≡ w ∷ ws → (those k xs ≡ w ∷ ws → m ≤ k) → m ≤ k
      go true f e more = let h : m ≤ n x = a.0 in let g : k ≡ n x = only k (n x) f in omega arith
      go false f e more = more e

  front : (k : ℕ) (x : X) (xs : List X) → k ≡ n x → those k (x ∷ xs) ≡ x ∷ those k xs
  front k x xs e = ap (λ b. cond b (x ∷ those k xs) (those k xs)) (ap (same k) (sym e) ∙ yes k)

  tails : (b : Bool) (x y : X) (xs ys : List X) → x ≡ y → cond b (x ∷ xs) xs ≡ cond b (y ∷ ys) ys → xs ≡ ys
  tails true x y xs ys e h = cc h
  tails false x y xs ys e h = h

  -- two lists by rising number that have, at each number, the same elements in the same order
  pub sorted_once : (xs ys : List X) → Ascends (map n xs) → Ascends (map n ys) → ((k : ℕ) → those k xs ≡ those k ys) → xs ≡ ys
  sorted_once [] [] a b h = refl
  sorted_once [] (y ∷ ys) a b h = let e : [] ≡ y ∷ those (n y) ys = h (n y) ∙ front (n y) y ys refl in cc e
  sorted_once (x ∷ xs) [] a b h = let e : x ∷ those (n x) xs ≡ [] = sym (front (n x) x xs refl) ∙ h (n x) in cc e
  sorted_once (x ∷ xs) (y ∷ ys) a b h =
      let low : n y ≤ n x = bounded (n y) (n x) (y ∷ ys) x (those (n x) xs) (omega arith, b.0) (sym (h (n x)) ∙ front (n x) x xs refl) in
      let high : n x ≤ n y = bounded (n x) (n y) (x ∷ xs) y (those (n y) ys) (omega arith, a.0) (h (n y) ∙ front (n y) y ys refl) in
      let e : n x ≡ n y = omega arith in
      let heads : x ∷ those (n x) xs ≡ y ∷ those (n x) ys = sym (front (n x) x xs refl) ∙ h (n x) ∙ front (n x) y ys e in
      let one : x ≡ y = cc heads in
      let rest : xs ≡ ys = sorted_once xs ys a.1 b.1 (λ k. tails (same k (n x)) x y (those k xs) (those k ys) one (h k ∙ ap (λ z. cond (same k (n z)) (y ∷ those k ys) (those k ys)) (sym one))) in
      ap (λ z. z ∷ xs) one ∙ ap (λ zs. y ∷ zs) rest
