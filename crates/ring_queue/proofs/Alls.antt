-- As many seats of a ring as it has roles are all of them, since no two have one number.
use Rattle.std.proofs.Common.{◌≡◌, ℕ, zero, suc, ◌-◌, ◌<◌, ◌≤◌, Bool, true, false, ◌||◌, ◌⊎◌, inl, inr, nat_eq, IsSomeAnd, List, [], ◌∷◌, length, map, Some, slice_get, sym, refl, ap, ◌∙◌, arith}
use Rattle.std.specs.List.{All, AllByRecursion, IsDistinct, list_any}
use Rattle.std.proofs.lemmas.Bool.{eqb-true}
use Rattle.std.proofs.lemmas.List.{length-map}
use Rattle.std.proofs.lemmas.Map.Steps.{length-le_from_distinct_below}
use Rattle.std.proofs.lemmas.Option.{none-some, same_Some, slice_get_within}
use Rattle.atomic_table.specs.Seated.{TableId}
use Rattle.history.specs.Ends.{AreAll}
use Rattle.ring_queue.specs.declared.seats.Seat.{Seat}
use Rattle.ring_queue.specs.Plans.{Layout, permit_of, permits_of}
use Rattle.ring_queue.specs.Seats.{Sits, known_of, view}
use Rattle.ring_queue.proofs.RingEnds.{at_place}

-- a number is among these, or each of them is another
search : (ns : List ℕ) (x : ℕ) → ((i : ℕ) × (slice_get ns i ≡ Some x)) ⊎ AllByRecursion (λ y. nat_eq x y ≡ false) ns
search [] x = inr tt
search (y ∷ ys) x = go (nat_eq x y) refl (search ys x)
  where
    go : (b : Bool) → nat_eq x y ≡ b → ((i : ℕ) × (slice_get ys i ≡ Some x)) ⊎ AllByRecursion (λ z. nat_eq x z ≡ false) ys
        → ((i : ℕ) × (slice_get (y ∷ ys) i ≡ Some x)) ⊎ AllByRecursion (λ z. nat_eq x z ≡ false) (y ∷ ys)
    go true e found = inl (0, ap (λ z. Some z) (sym (eqb-true x y e)))
    go false e (inl found) = inl (suc found.0, found.1)
    go false e (inr none) = inr (e, none)

-- a number that isn't among these isn't found there
none_any : (x : ℕ) (ys : List ℕ) → AllByRecursion (λ y. nat_eq x y ≡ false) ys → list_any (nat_eq x) ys ≡ false
none_any x [] h = refl
none_any x (y ∷ ys) h = ap (λ b. b || list_any (nat_eq x) ys) h.0 ∙ none_any x ys h.1

-- a number that stands at no place is another than each
none_behind : (x : ℕ) (ys : List ℕ) → ((j : ℕ) → slice_get ys j ≡ Some x → ⊥) → AllByRecursion (λ y. nat_eq x y ≡ false) ys
none_behind x ys h = go (search ys x)
  where
    go : ((i : ℕ) × (slice_get ys i ≡ Some x)) ⊎ AllByRecursion (λ y. nat_eq x y ≡ false) ys → AllByRecursion (λ y. nat_eq x y ≡ false) ys
    go (inl found) = absurd (h found.0 found.1)
    go (inr none) = none

-- numbers each of which stands at one place are distinct
distinct : (ns : List ℕ) → ((i j x : ℕ) → slice_get ns i ≡ Some x → slice_get ns j ≡ Some x → i ≡ j) → IsDistinct nat_eq ns
unfolding IsDistinct
distinct [] apart = tt
distinct (x ∷ xs) apart = (
  none_behind x xs (λ j e. let same = apart 0 (suc j) x refl e in omega (arith, same)),
  distinct xs (λ i j y e f. let same = apart (suc i) (suc j) y e f in omega (arith, same)),
)

-- n numbers below n, each at one place, are all of these
all_below : (ns : List ℕ) (n x : ℕ) → length ns ≡ n → ((i j y : ℕ) → slice_get ns i ≡ Some y → slice_get ns j ≡ Some y → i ≡ j)
    → ((i y : ℕ) → slice_get ns i ≡ Some y → y < n) → x < n → (i : ℕ) × (slice_get ns i ≡ Some x)
unfolding IsDistinct
all_below ns n x count apart below lt = go (search ns x)
  where
    at : (q i : ℕ) → slice_get (x ∷ ns) i ≡ Some q → q < n
    at q zero is = let same : x ≡ q = same_Some x q is in omega (arith, same, lt)
    at q (suc i) is = below i q is

    from : (q : ℕ) → list_any (nat_eq q) (x ∷ ns) ≡ true → ((i : ℕ) × (slice_get (x ∷ ns) i ≡ Some q)) ⊎ AllByRecursion (λ y. nat_eq q y ≡ false) (x ∷ ns) → q < n
    from q e (inl found) = at q found.0 found.1
    from q e (inr other) = absurd (let f : true ≡ false = sym e ∙ none_any q (x ∷ ns) other in cc)

    go : ((i : ℕ) × (slice_get ns i ≡ Some x)) ⊎ AllByRecursion (λ y. nat_eq x y ≡ false) ns → (i : ℕ) × (slice_get ns i ≡ Some x)
    go (inl found) = found
    go (inr none) = absurd (let more : suc (length ns) ≤ n = length-le_from_distinct_below (x ∷ ns) n (none, distinct ns apart) (λ q e. from q e (search (x ∷ ns) q)) in omega (arith, more, count))

-- the place of a seat's number
abbrev place_of : {T : Type 0} → Seat T → ℕ
place_of s = (view s).number - 1

-- the seat at a place of the numbers' places
seat_there : {T : Type 0} (seats : List (Seat T)) (i x : ℕ) → slice_get (map place_of seats) i ≡ Some x → (s : Seat T) × (slice_get seats i ≡ Some s) × (place_of s ≡ x)
seat_there [] i x e = absurd (none-some x e)
seat_there (s ∷ ss) zero x e = (s, refl, same_Some (place_of s) x e)
seat_there (s ∷ ss) (suc i) x e = seat_there ss i x e

-- what a seat of a place knows stands at the same place
known_there : {T : Type 0} (seats : List (Seat T)) (i n : ℕ) (s : Seat T) → slice_get seats i ≡ Some s → (view s).number ≡ n → IsSomeAnd (slice_get (map known_of seats) i) (λ k. k.number ≡ n)
known_there [] i n s e is = absurd (none-some s e)
known_there (x ∷ xs) zero n s e is = ap (λ (y : Seat _). (view y).number) (same_Some x s e) ∙ is
known_there (x ∷ xs) (suc i) n s e is = known_there xs i n s e is

module _ {T : Type 0} (z : Layout) (t : TableId) (seats : List (Seat T)) (ready : All (Sits z t) seats)
    (apart : (k l : ℕ) (a b : Seat T) → slice_get seats k ≡ Some a → slice_get seats l ≡ Some b → (view a).number ≡ (view b).number → k ≡ l) where
  -- the number of a seat that is handed in
  in_range : (i : ℕ) (s : Seat T) → slice_get seats i ≡ Some s → (1 ≤ (view s).number) × ((view s).number - 1 < length z.roles)
  in_range i s got =
      let sits = at_place (Sits z t) seats i s ready got in
      let from = sits.from in
      let number = sits.number in
      let within = slice_get_within z.roles (s.number - 1) s.role sits.role in
      (omega (arith, from, number), omega (arith, within, number))

  -- so many seats as there are roles are all
  pub are_all : length seats ≡ length (permits_of z) → AreAll (permits_of z) (map known_of seats)
  are_all many n from to =
      let roles : length (permits_of z) ≡ length z.roles = length-map z.roles permit_of in
      let count = length-map seats place_of in
      let found = all_below (map place_of seats) (length z.roles) (n - 1) (omega (arith, count, many, roles))
      (λ i j y e f.
      let a = seat_there seats i y e in
      let b = seat_there seats j y f in
      let low = (in_range i a.0 a.1).0 in
      let below = (in_range j b.0 b.1).0 in
      let one : (view a.0).number - 1 ≡ y = a.2 in
      let other : (view b.0).number - 1 ≡ y = b.2 in
      apart i j a.0 b.0 a.1 b.1 (omega (arith, low, below, one, other)))
      (λ i y e.
      let a = seat_there seats i y e in
      let near = (in_range i a.0 a.1).1 in
      let one : (view a.0).number - 1 ≡ y = a.2 in
      omega (arith, near, one))
      (omega (arith, from, to, roles)) in
      let s = seat_there seats found.0 (n - 1) found.1 in
      let low = (in_range found.0 s.0 s.1).0 in
      let one : (view s.0).number - 1 ≡ n - 1 = s.2 in
      (found.0, known_there seats found.0 n s.0 s.1 (omega (arith, from, low, one)))
