-- What stands in a list stands in each permutation of it, and without it they are permutations of each other.
use Rattle.std.proofs.Common.{◌≡◌, ℕ, zero, suc, ◌<◌, List, [], ◌∷◌, Some, length, slice_get, Bool, true, false, cond, refl, arith, set, get_or}
use Rattle.std.specs.List.{swap, filter}
use Rattle.std.specs.List.Sorted.{IsPermutation}
use Rattle.std.proofs.lemmas.List.Sorted.{IsPermutation-refl, IsPermutation-sym, IsPermutation-cons, IsPermutation-trans, IsPermutation-middle, IsPermutation-keeps}
use Rattle.waiting_orders.specs.Lines.{without}

-- A relation holds along each permutation if it is reflexive and transitive, and goes under a head and over an exchange of two heads.
module _ {X : Type 0} (R : List X → List X → Type 0) (same : (xs : List X) → R xs xs)
    (skip : (x : X) (xs ys : List X) → R xs ys → R (x ∷ xs) (x ∷ ys))
    (turn : (x y : X) (xs : List X) → R (x ∷ y ∷ xs) (y ∷ x ∷ xs))
    (chain : (xs ys zs : List X) → R xs ys → R ys zs → R xs zs) where
  to_head : (l : List X) (j : ℕ) (x d : X) → j < length l → R (x ∷ l) (get_or l j d ∷ set l j x)
  to_head [] j x d h = absurd (omega arith)
  to_head (y ∷ l) zero x d h = turn x y l
  to_head (y ∷ l) (suc j) x d h =
      chain _ _ _ (turn x y l) (chain _ _ _ (skip y _ _ (to_head l j x d (omega arith))) (turn y (get_or l j d) (set l j x)))

  exchanged : (l : List X) (i j : ℕ) (d : X) → i < length l → j < length l → R l (set (set l i (get_or l j d)) j (get_or l i d))
  exchanged [] i j d p q = absurd (omega arith)
  exchanged (x ∷ l) zero zero d p q = same (x ∷ l)
  exchanged (x ∷ l) zero (suc j) d p q = to_head l j x d (omega arith)
  exchanged (x ∷ l) (suc i) zero d p q = to_head l i x d (omega arith)
  exchanged (x ∷ l) (suc i) (suc j) d p q = skip x _ _ (exchanged l i j d (omega arith) (omega arith))

  swapped : (l : List X) (i j : ℕ) → i < length l → j < length l → R l (swap l i j)
  swapped [] i j p q = same []
  swapped (x ∷ l) i j p q = exchanged (x ∷ l) i j x p q

  pub along_permutation : (xs ys : List X) → IsPermutation xs ys → R xs ys
  along_permutation xs = IsPermutation-keeps xs (R xs) (same xs) (λ l i j p q h. chain xs l _ h (swapped l i j p q))

-- what stands at a place stands at one of the other list, and the rests are permutations
record Found {X : Type 0} (o : X) (xs rest : List X) : Type 0 where
  place : ℕ
  there : slice_get xs place ≡ Some o
  rest_is : IsPermutation rest (without place xs)

record Moves {X : Type 0} (xs ys : List X) : Type 0 where
  all : IsPermutation xs ys
  each : (k : ℕ) (o : X) → slice_get xs k ≡ Some o → Found o ys (without k xs)

module _ {X : Type 0} where
  same_moves : (xs : List X) → Moves xs xs
  same_moves xs = record { all = IsPermutation-refl xs; each = λ k o e. record { place = k; there = e; rest_is = IsPermutation-refl (without k xs) } }

  skip_moves : (x : X) (xs ys : List X) → Moves xs ys → Moves (x ∷ xs) (x ∷ ys)
  skip_moves x xs ys h = record { all = IsPermutation-cons x xs ys h.all; each = go }
    where
      go : (k : ℕ) (o : X) → slice_get (x ∷ xs) k ≡ Some o → Found o (x ∷ ys) (without k (x ∷ xs))
      go zero o e = record { place = 0; there = e; rest_is = h.all }
      go (suc k) o e =
          let f = h.each k o e in
          record { place = suc f.place; there = f.there; rest_is = IsPermutation-cons x _ _ f.rest_is }

  turn_all : (x y : X) (xs : List X) → IsPermutation (x ∷ y ∷ xs) (y ∷ x ∷ xs)
  turn_all x y xs = IsPermutation-middle (x ∷ []) y xs

  turn_moves : (x y : X) (xs : List X) → Moves (x ∷ y ∷ xs) (y ∷ x ∷ xs)
  turn_moves x y xs = record { all = turn_all x y xs; each = go }
    where
      go : (k : ℕ) (o : X) → slice_get (x ∷ y ∷ xs) k ≡ Some o → Found o (y ∷ x ∷ xs) (without k (x ∷ y ∷ xs))
      go zero o e = record { place = 1; there = e; rest_is = IsPermutation-refl _ }
      go (suc zero) o e = record { place = 0; there = e; rest_is = IsPermutation-refl _ }
      go (suc (suc k)) o e = record { place = suc (suc k); there = e; rest_is = turn_all x y (without k xs) }

  chain_moves : (xs ys zs : List X) → Moves xs ys → Moves ys zs → Moves xs zs
  chain_moves xs ys zs g h = record { all = IsPermutation-trans xs ys zs g.all h.all; each = go }
    where
      go : (k : ℕ) (o : X) → slice_get xs k ≡ Some o → Found o zs (without k xs)
      go k o e =
          let f = g.each k o e in
          let m = h.each f.place o f.there in
          record { place = m.place; there = m.there; rest_is = IsPermutation-trans _ _ _ f.rest_is m.rest_is }

  moves : (xs ys : List X) → IsPermutation xs ys → Moves xs ys
  moves = along_permutation Moves same_moves skip_moves turn_moves chain_moves

  -- where a permutation of a list begins with something
  pub found_first : (o : X) (xs ts : List X) → IsPermutation xs (o ∷ ts) → (k : ℕ) × (slice_get xs k ≡ Some o) × IsPermutation ts (without k xs)
  found_first o xs ts h = let f = (moves (o ∷ ts) xs (IsPermutation-sym xs (o ∷ ts) h)).each 0 o refl in (f.place, f.there, f.rest_is)

  pub within : (xs : List X) (k : ℕ) (o : X) → slice_get xs k ≡ Some o → k < length xs
  within [] k o e = absurd cc
  within (x ∷ xs) zero o e = omega arith
  within (x ∷ xs) (suc k) o e = let h = within xs k o e in omega (arith, h)

  -- what passes a test of a list passes it of each permutation
  module _ (test : X → Bool) where
    skip_filter : (x : X) (xs ys : List X) → IsPermutation (filter test xs) (filter test ys) → IsPermutation (filter test (x ∷ xs)) (filter test (x ∷ ys))
    skip_filter x xs ys h = go (test x)
      where
        go : (b : Bool) → IsPermutation (cond b (x ∷ filter test xs) (filter test xs)) (cond b (x ∷ filter test ys) (filter test ys))
        go true = IsPermutation-cons x _ _ h
        go false = h

    turn_filter : (x y : X) (xs : List X) → IsPermutation (filter test (x ∷ y ∷ xs)) (filter test (y ∷ x ∷ xs))
    turn_filter x y xs = go (test x) (test y)
      where
        go : (b c : Bool) → IsPermutation (cond b (x ∷ cond c (y ∷ filter test xs) (filter test xs)) (cond c (y ∷ filter test xs) (filter test xs)))
            (cond c (y ∷ cond b (x ∷ filter test xs) (filter test xs)) (cond b (x ∷ filter test xs) (filter test xs)))
        go true true = turn_all x y (filter test xs)
        go true false = IsPermutation-refl _
        go false true = IsPermutation-refl _
        go false false = IsPermutation-refl _

    pub filter_moved : (xs ys : List X) → IsPermutation xs ys → IsPermutation (filter test xs) (filter test ys)
    filter_moved = along_permutation (λ xs ys. IsPermutation (filter test xs) (filter test ys)) (λ xs. IsPermutation-refl _) skip_filter turn_filter (λ xs ys zs. IsPermutation-trans _ _ _)
