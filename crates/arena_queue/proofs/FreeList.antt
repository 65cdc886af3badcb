-- The free list of a world has no more nodes than there are.
use Rattle.std.proofs.Common.{◌≡◌, ℕ, zero, suc, ◌+◌, ◌≤◌, ◌<◌, Bool, true, false, nat_eq, nat_le, ◌||◌, ◌⊎◌, inl, inr, List, [], ◌∷◌, length, refl, ap, arith}
use Rattle.std.specs.List.{IsDistinct, AllByRecursion, list_any}
use Rattle.std.proofs.lemmas.Bool.{leb-true, leb-false}
use Rattle.std.proofs.lemmas.Map.Steps.{length-le_from_distinct_below}
use Rattle.step_machine.specs.Machine.{World, IsReached}
use Rattle.step_machine.specs.Range.{WorldInRange}
use Rattle.step_machine.specs.EachQueue.{HasItsPlaces}
use Rattle.step_machine.specs.Places.{IsNull, IsChain, times, one_if}
use Rattle.step_machine.proofs.Reached.{reached_in_range}
use Rattle.step_machine.proofs.Chains.{null_times, one_if_same, one_if_other}
use Rattle.step_machine.proofs.EitherQueue.{have_their_places}

pub record FreeList (w : World) : Type 0 where
  pub free : List ℕ
  pub chain : IsChain w.shared.nodes w.shared.free.node free
  pub few : length free ≤ w.setup.size

-- a number that is found in a list stands in it
found_stands : (q : ℕ) (xs : List ℕ) → list_any (nat_eq q) xs ≡ true → 1 ≤ times q xs
found_stands q [] e = absurd (let f : false ≡ true = e in cc)
found_stands q (x ∷ xs) e = go (nat_eq q x) refl e (found_stands q xs)
  where
    go : (b : Bool) → nat_eq q x ≡ b → (b || list_any (nat_eq q) xs) ≡ true → (list_any (nat_eq q) xs ≡ true → 1 ≤ times q xs) → 1 ≤ times q (x ∷ xs)
    go true f g ih = omega (arith, ap one_if f)
    go false f g ih = omega (arith, ih g)

-- a number that doesn't stand in a list is none of it
apart : (x : ℕ) (xs : List ℕ) → times x xs ≡ 0 → AllByRecursion (λ y. nat_eq x y ≡ false) xs
apart x [] none = tt
apart x (y ∷ ys) none = go (nat_eq x y) refl (apart x ys)
  where
    go : (b : Bool) → nat_eq x y ≡ b → (times x ys ≡ 0 → AllByRecursion (λ z. nat_eq x z ≡ false) ys) → AllByRecursion (λ z. nat_eq x z ≡ false) (y ∷ ys)
    go true f ih = absurd (omega (arith, none, ap one_if f))
    go false f ih = (f, ih (omega (arith, none)))

-- numbers none of which stands twice are distinct
distinct : (xs : List ℕ) → ((k : ℕ) → times k xs ≤ 1) → IsDistinct nat_eq xs
unfolding IsDistinct
distinct [] once = tt
distinct (x ∷ xs) once = (apart x xs (omega (arith, once x, one_if_same x x refl)), distinct xs (λ k. omega (arith, once k)))

le_or_lt : (n m : ℕ) → (n ≤ m) ⊎ (m < n)
le_or_lt n m = go (nat_le n m) refl
  where
    go : (b : Bool) → nat_le n m ≡ b → (n ≤ m) ⊎ (m < n)
    go true e = inl (leb-true n m e)
    go false e = inr (leb-false n m e)

module _ (w : World) (r : IsReached w) where
  places : HasItsPlaces w
  places = have_their_places w r

  range : WorldInRange w
  range = reached_in_range w r

  none : times 0 places.1 ≡ 0
  none = null_times IsNull w.shared.nodes places.1 w.shared.free.node places.2.free_chain

  once : (k : ℕ) → times k places.1 ≤ 1
  once zero = omega (arith, none)
  once (suc k) = go (le_or_lt (suc k) w.shared.fresh)
    where
      go : (suc k ≤ w.shared.fresh) ⊎ (w.shared.fresh < suc k) → times (suc k) places.1 ≤ 1
      go (inl low) = omega (arith, places.2.touched (suc k) (omega arith) low)
      go (inr above) = omega (arith, places.2.untouched (suc k) above)

  low : (k : ℕ) → 1 ≤ times k places.1 → k ≤ w.setup.size
  low k stands = go (le_or_lt k w.shared.fresh)
    where
      go : (k ≤ w.shared.fresh) ⊎ (w.shared.fresh < k) → k ≤ w.setup.size
      go (inl within) = omega (arith, within, range.shared.fresh)
      go (inr above) = absurd (omega (arith, stands, places.2.untouched k above))

  -- the node numbers and 0 that stands nowhere: one place less than there are numbers
  all : length (0 ∷ places.1) ≤ w.setup.size + 1
  unfolding IsDistinct
  all =
      length-le_from_distinct_below (0 ∷ places.1) (w.setup.size + 1) (apart 0 places.1 none, distinct places.1 once)
      (λ q found. below q (found_stands q (0 ∷ places.1) found))
    where
      below : (q : ℕ) → 1 ≤ times q (0 ∷ places.1) → q < w.setup.size + 1
      below zero stands = omega arith
      below (suc q) stands = omega (arith, low (suc q) (omega (arith, stands, one_if_other (suc q) 0 (λ e. omega arith))))

  pub free_list : FreeList w
  free_list = record { free = places.1; chain = places.2.free_chain; few = omega (arith, all) }
