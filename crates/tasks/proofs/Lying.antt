-- What lies in a list that is made of others.
use Rattle.std.proofs.Common.{◌≡◌, ◌⊎◌, inl, inr, refl, ap, subst, sym, ℕ, zero, suc, ◌<◌, Bool, true, false, cond, List, [], ◌∷◌, ◌++◌, map, length, get_or, Some, None, IsSomeAnd, slice_get, arith}
use Rattle.std.specs.List.{All, AllZip, filter, flat_map}
use Rattle.std.proofs.lemmas.List.Elements.{All-nil, All-cons, All-head, All-tail}

-- an element lies in a list
abbrev pub Lies : {X : Type 0} → X → List X → Type 0
Lies x [] = ⊥
Lies x (y ∷ ys) = (y ≡ x) ⊎ Lies x ys

module _ {X : Type 0} where
  pub lies-left : (x : X) (xs ys : List X) → Lies x xs → Lies x (xs ++ ys)
  lies-left x [] ys h = absurd h
  lies-left x (y ∷ xs) ys (inl e) = inl e
  lies-left x (y ∷ xs) ys (inr h) = inr (lies-left x xs ys h)

  pub lies-right : (x : X) (xs ys : List X) → Lies x ys → Lies x (xs ++ ys)
  lies-right x [] ys h = h
  lies-right x (y ∷ xs) ys h = inr (lies-right x xs ys h)

  pub lies-cases : (x : X) (xs ys : List X) → Lies x (xs ++ ys) → Lies x xs ⊎ Lies x ys
  lies-cases x [] ys h = inr h
  lies-cases x (y ∷ xs) ys (inl e) = inl (inl e)
  lies-cases x (y ∷ xs) ys (inr h) = elim (lies-cases x xs ys h) [ inl k ↦ inl (inr k) | inr k ↦ inr k ]

  pub lies-all : (P : X → Type 0) (x : X) (xs : List X) → All P xs → Lies x xs → P x
  lies-all P x [] all h = absurd h
  lies-all P x (y ∷ ys) all (inl e) = subst P e (All-head P y ys all)
  lies-all P x (y ∷ ys) all (inr h) = lies-all P x ys (All-tail P y ys all) h

  pub any-lies : (xs : List X) (k : ℕ) (x : X) → k < length xs → get_or xs k x ≡ x → Lies x xs
  any-lies [] k x low e = absurd (omega (arith, low))
  any-lies (y ∷ ys) zero x low e = inl e
  any-lies (y ∷ ys) (suc k) x low e = inr (any-lies ys k x (omega (arith, low)) e)

  -- what is so of each element that lies in a list is so of all
  pub all-lies : (P : X → Type 0) (xs : List X) → ((x : X) → Lies x xs → P x) → All P xs
  all-lies P [] h = All-nil P
  all-lies P (y ∷ ys) h = All-cons P y ys (h y (inl refl)) (all-lies P ys (λ x lies. h x (inr lies)))

  -- an element that lies in a list stands at a place
  pub place_of : (x : X) (xs : List X) → Lies x xs → (k : ℕ) × (slice_get xs k ≡ Some x)
  place_of x [] h = absurd h
  place_of x (y ∷ ys) (inl e) = (0, ap (λ z. Some z) e)
  place_of x (y ∷ ys) (inr h) = let r = place_of x ys h in (suc r.0, r.1)

  -- there is an element at each place
  pub element_at : (xs : List X) (k : ℕ) → k < length xs → (x : X) × (slice_get xs k ≡ Some x)
  element_at [] k low = absurd (omega (arith, low))
  element_at (y ∷ ys) zero low = (y, refl)
  element_at (y ∷ ys) (suc k) low = element_at ys k (omega (arith, low))

  -- and none past the end
  pub place_low : (xs : List X) (k : ℕ) (x : X) → slice_get xs k ≡ Some x → k < length xs
  place_low [] k x h = absurd (let e : None ≡ Some x = h in cc)
  place_low (y ∷ ys) zero x h = omega arith
  place_low (y ∷ ys) (suc k) x h = let low = place_low ys k x h in omega (arith, low)

  -- the elements of a list before others stand where they stood, and the first one behind them at its length
  pub place-left : (xs ys : List X) (k : ℕ) (x : X) → slice_get xs k ≡ Some x → slice_get (xs ++ ys) k ≡ Some x
  place-left [] ys k x h = absurd (let e : None ≡ Some x = h in cc)
  place-left (z ∷ xs) ys zero x h = h
  place-left (z ∷ xs) ys (suc k) x h = place-left xs ys k x h

  pub place-last : (xs : List X) (x : X) → slice_get (xs ++ x ∷ []) (length xs) ≡ Some x
  place-last [] x = refl
  place-last (z ∷ xs) x = place-last xs x

  -- the element at a place lies in the list
  pub lies-at : (P : X → Type 0) (xs : List X) (n : ℕ) → IsSomeAnd (slice_get xs n) P → (x : X) × Lies x xs × P x
  lies-at P [] n h = absurd h
  lies-at P (y ∷ ys) zero h = (y, inl refl, h)
  lies-at P (y ∷ ys) (suc n) h = let r = lies-at P ys n h in (r.0, inr r.1, r.2)

  one_or : (b : Bool) (x y : X) (xs : List X) → Lies x (cond b (y ∷ xs) xs) → (y ≡ x) ⊎ Lies x xs
  one_or true x y xs h = h
  one_or false x y xs h = inr h

  or_one : (b : Bool) (x y : X) (xs : List X) → Lies x xs → Lies x (cond b (y ∷ xs) xs)
  or_one true x y xs h = inr h
  or_one false x y xs h = h

  pub filter-lies : (p : X → Bool) (x : X) (xs : List X) → Lies x (filter p xs) → Lies x xs
  filter-lies p x [] h = h
  filter-lies p x (y ∷ ys) h = elim (one_or (p y) x y (filter p ys) h) [ inl e ↦ inl e | inr k ↦ inr (filter-lies p x ys k) ]

  pub lies-filter : (p : X → Bool) (x : X) (xs : List X) → p x ≡ true → Lies x xs → Lies x (filter p xs)
  lies-filter p x [] so h = h
  lies-filter p x (y ∷ ys) so (inl e) = subst (λ b. Lies x (cond b (y ∷ filter p ys) (filter p ys))) (sym (subst (λ z. p z ≡ true) (sym e) so)) (inl e)
  lies-filter p x (y ∷ ys) so (inr h) = or_one (p y) x y (filter p ys) (lies-filter p x ys so h)

module _ {X Y : Type 0} where
  pub lies-map : (f : X → Y) (x : X) (xs : List X) → Lies x xs → Lies (f x) (map f xs)
  lies-map f x [] h = h
  lies-map f x (y ∷ ys) (inl e) = inl (ap f e)
  lies-map f x (y ∷ ys) (inr h) = inr (lies-map f x ys h)

  pub map-lies : (f : X → Y) (y : Y) (xs : List X) → Lies y (map f xs) → (x : X) × Lies x xs × (f x ≡ y)
  map-lies f y [] h = absurd h
  map-lies f y (x ∷ xs) (inl e) = (x, inl refl, e)
  map-lies f y (x ∷ xs) (inr h) = let r = map-lies f y xs h in (r.0, inr r.1, r.2)

  pub lies-flat : (f : X → List Y) (y : Y) (x : X) (xs : List X) → Lies x xs → Lies y (f x) → Lies y (flat_map f xs)
  lies-flat f y x [] h k = h
  lies-flat f y x (z ∷ zs) (inl e) k = lies-left y (f z) (flat_map f zs) (subst (λ w. Lies y (f w)) (sym e) k)
  lies-flat f y x (z ∷ zs) (inr h) k = lies-right y (f z) (flat_map f zs) (lies-flat f y x zs h k)

  pub flat-lies : (f : X → List Y) (y : Y) (xs : List X) → Lies y (flat_map f xs) → (x : X) × Lies x xs × Lies y (f x)
  flat-lies f y [] h = absurd h
  flat-lies f y (z ∷ zs) h = elim (lies-cases y (f z) (flat_map f zs) h) [ inl k ↦ (z, inl refl, k) | inr k ↦ (let r = flat-lies f y zs k in (r.0, inr r.1, r.2)) ]

  -- what stands beside an element
  pub zip-left : (R : X → Y → Type 0) (xs : List X) (ys : List Y) (x : X) → AllZip R xs ys → Lies x xs → (y : Y) × Lies y ys × R x y
  zip-left R [] ys x all h = absurd h
  zip-left R (z ∷ xs) [] x all h = absurd all
  zip-left R (z ∷ xs) (y ∷ ys) x all (inl e) = (y, inl refl, subst (λ w. R w y) e all.0)
  zip-left R (z ∷ xs) (y ∷ ys) x all (inr h) = let r = zip-left R xs ys x all.1 h in (r.0, inr r.1, r.2)

  pub zip-right : (R : X → Y → Type 0) (xs : List X) (ys : List Y) (y : Y) → AllZip R xs ys → Lies y ys → (x : X) × Lies x xs × R x y
  zip-right R xs [] y all h = absurd h
  zip-right R [] (w ∷ ys) y all h = absurd all
  zip-right R (x ∷ xs) (w ∷ ys) y all (inl e) = (x, inl refl, subst (λ w. R x w) e all.0)
  zip-right R (x ∷ xs) (w ∷ ys) y all (inr h) = let r = zip-right R xs ys y all.1 h in (r.0, inr r.1, r.2)

  -- one more of each
  pub zip-push : (R : X → Y → Type 0) (xs : List X) (ys : List Y) (x : X) (y : Y) → AllZip R xs ys → R x y → AllZip R (xs ++ x ∷ []) (ys ++ y ∷ [])
  zip-push R [] [] x y all h = (h, tt)
  zip-push R [] (w ∷ ys) x y all h = absurd all
  zip-push R (z ∷ xs) [] x y all h = absurd all
  zip-push R (z ∷ xs) (w ∷ ys) x y all h = (all.0, zip-push R xs ys x y all.1 h)

-- one more of each, whatever the lists are then called
pub zip-pushed : {X Y : Type 0} (R : X → Y → Type 0) (xs : List X) (ys : List Y) {all : List X} {all' : List Y} {x : X} {y : Y} → AllZip R xs ys → R x y
    → all ≡ xs ++ x ∷ [] → all' ≡ ys ++ y ∷ [] → AllZip R all all'
zip-pushed R xs ys {all' = all'} {x = x} {y = y} h k one other =
    subst (λ l. AllZip R l all') (sym one) (subst (λ l. AllZip R (xs ++ x ∷ []) l) (sym other) (zip-push R xs ys x y h k))
