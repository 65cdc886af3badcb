-- The seats of a new queue, one of whom stands behind the others.
use Rattle.std.proofs.Common.{◌≡◌, ◌∙◌, ℕ, zero, suc, ◌+◌, ◌<◌, ◌≤◌, inl, inr, sym, refl, ap, subst, false, nat_eq, List, [], ◌∷◌, ◌++◌, map, length}
use Rattle.std.proofs.Common.{None, Some, IsSomeAnd, slice_get, length-append, eq-or-lt_of_le, arith}
use Rattle.std.specs.List.{All, AllByRecursion, IsDistinct}
use Rattle.std.proofs.lemmas.Bool.Decides.{eqb_tells}
use Rattle.std.proofs.lemmas.Map.Keys.{IsDistinct-cons}
use Rattle.history.specs.Seats.{Permit, MayPush, MayPop}
use Rattle.carriers.specs.Knowledge.{KnownOf}
use Rattle.carriers.specs.Ends.{AreAllOf}
use Rattle.tasks.proofs.Gathering.{some_same}
use Rattle.tasks.proofs.Lying.{Lies, lies-left, lies-right, lies-all, all-lies, place_of, place_low, place-left, place-last}
use Rattle.tasks.specs.FedPools.{IsLineOf}

-- so many numbers, from this one on
abbrev counting : ℕ → ℕ → List ℕ
counting a zero = []
counting a (suc n) = a ∷ counting (suc a) n

differ : (x y : ℕ) → (x ≡ y → ⊥) → nat_eq x y ≡ false
differ x y h = elim (eqb_tells x y) [ inl e ↦ absurd (h e.1) | inr e ↦ e.0 ]

-- a number that is less is none of these
below_all : (x a n : ℕ) → x < a → AllByRecursion (λ y. nat_eq x y ≡ false) (counting a n)
below_all x a zero low = tt
below_all x a (suc n) low = (differ x a (λ e. omega (arith, e, low)), below_all x (suc a) n (omega (arith, low)))

-- nor one that is more
above_all : (x a n : ℕ) → a + n ≤ x → AllByRecursion (λ y. nat_eq x y ≡ false) (counting a n)
above_all x a zero high = tt
above_all x a (suc n) high = (differ x a (λ e. omega (arith, e, high)), above_all x (suc a) n (omega (arith, high)))

counting-distinct : (a n : ℕ) → IsDistinct nat_eq (counting a n)
unfolding IsDistinct
counting-distinct a zero = tt
counting-distinct a (suc n) = IsDistinct-cons nat_eq a (counting (suc a) n) (below_all a (suc a) n (omega arith)) (counting-distinct (suc a) n)

counting-at : (a n i : ℕ) → i < n → slice_get (counting a n) i ≡ Some (a + i)
counting-at a zero i low = absurd (omega (arith, low))
counting-at a (suc n) zero low =
    let same : a ≡ a + 0 = omega arith in
    ap (λ x. Some x) same
counting-at a (suc n) (suc i) low =
    let same : suc a + i ≡ a + suc i = omega arith in
    counting-at (suc a) n i (omega (arith, low)) ∙ ap (λ x. Some x) same

module _ {N : Type 0} where
  abbrev pub numbers : List (KnownOf N) → List ℕ
  numbers ks = map (λ (k : KnownOf N). k.number) ks

  numbered_at : (ks : List (KnownOf N)) (i x : ℕ) → slice_get (numbers ks) i ≡ Some x → IsSomeAnd (slice_get ks i) (λ k. k.number ≡ x)
  numbered_at [] i x h = absurd (let e : None ≡ Some x = h in cc)
  numbered_at (k ∷ ks) zero x h = some_same k.number x h
  numbered_at (k ∷ ks) (suc i) x h = numbered_at ks i x h

module _ {Q S N : Type 0} (is_seat : Q → S → Type 0) (permits : Q → List Permit) (known : S → KnownOf N) (queue : Q)
    (seats others : List S) (last : S) (split : seats ≡ others ++ last ∷ []) (line : IsLineOf is_seat permits known queue seats) where
  -- there is one seat more than others
  pub count : length seats ≡ length others + 1
  count =
      let s = ap length split in
      let l = length-append others (last ∷ []) in
      omega (arith, s, l)

  unused_at : (k : ℕ) (s : S) → slice_get (others ++ last ∷ []) k ≡ Some s → ((known s).number ≡ k + 1) × ((known s).mine ≡ [])
  unused_at k s at = line.unused k s (subst (λ ss. slice_get ss k ≡ Some s) (sym split) at)

  seat_in_all : (s : S) → Lies s (others ++ last ∷ []) → is_seat queue s
  seat_in_all s lies = lies-all (is_seat queue) s (others ++ last ∷ []) (subst (All (is_seat queue)) split line.each) lies

  may_at : (s : S) (k : ℕ) → slice_get (others ++ last ∷ []) k ≡ Some s → MayPush (permits queue) (known s).number × MayPop (permits queue) (known s).number
  may_at s k at =
      let low = place_low (others ++ last ∷ []) k s at in
      let l = length-append others (last ∷ []) in
      let c = count in
      let n = (unused_at k s at).0 in
      subst (λ m. MayPush (permits queue) m × MayPop (permits queue) m) (sym n) (line.both k (omega (arith, low, l, c)))

  -- each is the queue's, and may push and pop
  pub others_are : All (λ s. is_seat queue s × (MayPush (permits queue) (known s).number × MayPop (permits queue) (known s).number)) others
  others_are =
      all-lies (λ s. is_seat queue s × (MayPush (permits queue) (known s).number × MayPop (permits queue) (known s).number)) others
      (λ s lies. let p = place_of s others lies in (seat_in_all s (lies-left s others (last ∷ []) lies), may_at s p.0 (place-left others (last ∷ []) p.0 s p.1)))

  pub last_is : is_seat queue last
  last_is = seat_in_all last (lies-right last others (last ∷ []) (inl refl))

  pub last_may : MayPush (permits queue) (known last).number × MayPop (permits queue) (known last).number
  last_may = may_at last (length others) (place-last others last)

  -- none has done anything
  pub others_new : All (λ s. (known s).mine ≡ []) others
  others_new = all-lies (λ s. (known s).mine ≡ []) others (λ s lies. let p = place_of s others lies in (unused_at p.0 s (place-left others (last ∷ []) p.0 s p.1)).1)

  pub last_new : (known last).mine ≡ []
  last_new = (unused_at (length others) last (place-last others last)).1

  from_one : numbers (map known others) ≡ counting 1 (length others)
  from_one = runs others 1 (λ k s at. (unused_at k s (place-left others (last ∷ []) k s at)).0)
    where
      runs : (xs : List S) (a : ℕ) → ((k : ℕ) (s : S) → slice_get xs k ≡ Some s → (known s).number ≡ k + a) → numbers (map known xs) ≡ counting a (length xs)
      runs [] a h = refl
      runs (x ∷ xs) a h =
          let e = h 0 x refl in
          let first : (known x).number ≡ a = omega (arith, e) in
          (λ i. first i ∷ runs xs (suc a) (λ k s at. let e = h (suc k) s at in omega (arith, e)) i)

  module _ (g : KnownOf N) (ks : List (KnownOf N)) (same : g.number ≡ (known last).number) (theirs : numbers ks ≡ numbers (map known others)) where
    last_number : g.number ≡ suc (length others)
    last_number =
        let n = (unused_at (length others) last (place-last others last)).0 in
        omega (arith, same, n)

    all_numbers : numbers (g ∷ ks) ≡ suc (length others) ∷ counting 1 (length others)
    all_numbers = (λ i. last_number i ∷ (theirs ∙ from_one) i)

    -- once they did, their numbers differ
    pub apart : IsDistinct nat_eq (numbers (g ∷ ks))
    apart =
        subst (IsDistinct nat_eq) (sym all_numbers)
        (IsDistinct-cons nat_eq (suc (length others)) (counting 1 (length others)) (above_all (suc (length others)) 1 (length others) (omega arith)) (counting-distinct 1 (length others)))

    at_place : (m : ℕ) → m < length others → IsSomeAnd (slice_get ks m) (λ k. k.number ≡ suc m)
    at_place m low =
        let same : 1 + m ≡ suc m = omega arith in
        numbered_at ks m (suc m) (ap (λ l. slice_get l m) (theirs ∙ from_one) ∙ counting-at 1 (length others) m low ∙ ap (λ x. Some x) same)

    -- and these are all seats of the queue
    pub every : AreAllOf (permits queue) (g ∷ ks)
    every zero low high = absurd (omega (arith, low))
    every (suc m) low high =
        let c = count in
        let d = line.count in
        let few : m ≤ length others = omega (arith, high, c, d) in
        elim (eq-or-lt_of_le few) [
          | inl e ↦ (0, (let n = last_number in omega (arith, e, n)))
          | inr less ↦ (suc m, at_place m less)
        ]
