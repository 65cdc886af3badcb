-- Places of a list: what stands there, what is left without it, and what is gathered at numbers one after another.
use Rattle.std.proofs.Common.{◌≡◌, ℕ, zero, suc, ◌+◌, ◌≤◌, nat_le, Bool, true, false, cond, ◌⊎◌, inl, inr, List, [], ◌∷◌, ◌++◌, Option, None, Some, length, take, drop, map, slice_get, refl, sym, ap, ◌∙◌, subst, arith}
use Rattle.std.specs.List.{AllByRecursion}
use Rattle.std.specs.List.Sorted.{IsPermutation}
use Rattle.std.proofs.lemmas.Bool.{leb-true, le-leb}
use Rattle.std.proofs.lemmas.List.{map-append}
use Rattle.std.proofs.lemmas.List.Sorted.{IsPermutation-refl, IsPermutation-cons, IsPermutation-trans, IsPermutation-middle}
use Rattle.std.proofs.lemmas.Option.{none-some, same_Some}
use Rattle.waiting_orders.specs.Lines.{without, gathered, listed, cat}

-- ---- what is gathered

pub gathered_none : {X : Type 0} (f : ℕ → List X) (from to : ℕ) → to ≤ from → gathered f from to ≡ []
gathered_none f from zero h = refl
gathered_none f from (suc to) h = go (nat_le from to) refl
  where
    go : (b : Bool) → nat_le from to ≡ b → cond b (gathered f from to ++ f to) [] ≡ []
    go true e = let l : from ≤ to = leb-true from to e in absurd (omega (arith, h, l))
    go false e = refl

pub gathered_next : {X : Type 0} (f : ℕ → List X) (from to : ℕ) → from ≤ to → gathered f from (suc to) ≡ gathered f from to ++ f to
gathered_next f from to h = ap (λ b. cond b (gathered f from to ++ f to) []) (le-leb from to h)

-- ---- without what stands at a place

pub without_split : {X : Type 0} (k : ℕ) (xs : List X) → without k xs ≡ take k xs ++ drop (suc k) xs
without_split zero [] = refl
without_split (suc k) [] = refl
without_split zero (x ∷ xs) = refl
without_split (suc k) (x ∷ xs) = ap (λ l. x ∷ l) (without_split k xs)

pub take_next : {X : Type 0} (k : ℕ) (xs : List X) → take (suc k) xs ≡ take k xs ++ listed (slice_get xs k)
take_next zero [] = refl
take_next (suc k) [] = refl
take_next zero (x ∷ xs) = refl
take_next (suc k) (x ∷ xs) = ap (λ l. x ∷ l) (take_next k xs)

pub get_dropped : {X : Type 0} (n k : ℕ) (xs : List X) → slice_get (drop n xs) k ≡ slice_get xs (n + k)
get_dropped zero k xs = let e : k ≡ zero + k = omega arith in ap (slice_get xs) e
get_dropped (suc n) k [] = refl
get_dropped (suc n) k (x ∷ xs) = let e : suc (n + k) ≡ suc n + k = omega arith in get_dropped n k xs ∙ ap (slice_get (x ∷ xs)) e

pub drop_twice : {X : Type 0} (n k : ℕ) (xs : List X) → drop k (drop n xs) ≡ drop (n + k) xs
drop_twice zero k xs = let e : k ≡ zero + k = omega arith in ap (λ n. drop n xs) e
drop_twice (suc n) zero [] = let e : suc n ≡ suc n + zero = omega arith in ap (λ n. drop n []) e
drop_twice (suc n) (suc k) [] = let e : suc (n + suc k) ≡ suc n + suc k = omega arith in ap (λ n. drop n []) e
drop_twice (suc n) k (x ∷ xs) = let e : suc (n + k) ≡ suc n + k = omega arith in drop_twice n k xs ∙ ap (λ n. drop n (x ∷ xs)) e

pub drop_all : {X : Type 0} (n : ℕ) (xs : List X) → length xs ≤ n → drop n xs ≡ []
drop_all zero [] h = refl
drop_all (suc n) [] h = refl
drop_all zero (x ∷ xs) h = absurd (omega (arith, h))
drop_all (suc n) (x ∷ xs) h = drop_all n xs (omega (arith, h))

pub taken_out : {X : Type 0} (k : ℕ) (xs : List X) (o : X) → slice_get xs k ≡ Some o → IsPermutation xs (o ∷ without k xs)
taken_out k [] o e = absurd cc
taken_out zero (x ∷ xs) o e = subst (λ y. IsPermutation (x ∷ xs) (y ∷ xs)) (same_Some x o e) (IsPermutation-refl (x ∷ xs))
taken_out (suc k) (x ∷ xs) o e = IsPermutation-trans _ _ _ (IsPermutation-cons x _ _ (taken_out k xs o e)) (IsPermutation-middle (x ∷ []) o (without k xs))

-- what stands at a place of two lists stands in the one or in the other
pub in_part : {X : Type 0} (xs ys : List X) (k : ℕ) (o : X) → slice_get (xs ++ ys) k ≡ Some o
    → ((slice_get xs k ≡ Some o) × (without k (xs ++ ys) ≡ without k xs ++ ys)) ⊎ ((j : ℕ) × (slice_get ys j ≡ Some o) × (without k (xs ++ ys) ≡ xs ++ without j ys))
in_part [] ys k o e = inr (k, e, refl)
in_part (x ∷ xs) ys zero o e = inl (e, refl)
in_part (x ∷ xs) ys (suc k) o e = go (in_part xs ys k o e)
  where
    go : ((slice_get xs k ≡ Some o) × (without k (xs ++ ys) ≡ without k xs ++ ys)) ⊎ ((j : ℕ) × (slice_get ys j ≡ Some o) × (without k (xs ++ ys) ≡ xs ++ without j ys))
        → ((slice_get xs k ≡ Some o) × (x ∷ without k (xs ++ ys) ≡ x ∷ without k xs ++ ys)) ⊎ ((j : ℕ) × (slice_get ys j ≡ Some o) × (x ∷ without k (xs ++ ys) ≡ x ∷ xs ++ without j ys))
    go (inl h) = inl (h.0, ap (λ l. x ∷ l) h.1)
    go (inr h) = inr (h.0, h.1, ap (λ l. x ∷ l) h.2)

-- ---- what stands at several places

pub cat_append : {X : Type 0} (xs ys : List (Option X)) → cat (xs ++ ys) ≡ cat xs ++ cat ys
cat_append [] ys = refl
cat_append (None ∷ xs) ys = cat_append xs ys
cat_append (Some x ∷ xs) ys = ap (λ l. x ∷ l) (cat_append xs ys)

pub map_without : {X Y : Type 0} (f : X → Y) (k : ℕ) (xs : List X) → map f (without k xs) ≡ without k (map f xs)
map_without f zero [] = refl
map_without f (suc k) [] = refl
map_without f zero (x ∷ xs) = refl
map_without f (suc k) (x ∷ xs) = ap (λ l. f x ∷ l) (map_without f k xs)

pub get_mapped : {X Y : Type 0} (f : X → Y) (k : ℕ) (xs : List X) (y : Y) → slice_get (map f xs) k ≡ Some y → (x : X) × (slice_get xs k ≡ Some x) × (f x ≡ y)
get_mapped f k [] y e = absurd cc
get_mapped f zero (x ∷ xs) y e = (x, refl, same_Some (f x) y e)
get_mapped f (suc k) (x ∷ xs) y e = get_mapped f k xs y e

-- where something stands that was picked: at a place of those kept, or in what comes behind
abbrev pub IsWhere : {X : Type 0} → List (Option X) → (behind : List X) → ℕ → X → Type 0
IsWhere xs behind k o =
    ((at : ℕ) × (slice_get xs at ≡ Some (Some o)) × (cat (without at xs) ++ behind ≡ without k (cat xs ++ behind)))
    ⊎ ((j : ℕ) × (slice_get behind j ≡ Some o) × (cat xs ++ without j behind ≡ without k (cat xs ++ behind)))

pub where_is : {X : Type 0} (xs : List (Option X)) (behind : List X) (k : ℕ) (o : X) → slice_get (cat xs ++ behind) k ≡ Some o → IsWhere xs behind k o
where_is [] behind k o e = inr (k, e, refl)
where_is (None ∷ xs) behind k o e = go (where_is xs behind k o e)
  where
    go : IsWhere xs behind k o → IsWhere (None ∷ xs) behind k o
    go (inl h) = inl (suc h.0, h.1, h.2)
    go (inr h) = inr h
where_is (Some x ∷ xs) behind zero o e = inl (0, ap Some e, refl)
where_is (Some x ∷ xs) behind (suc k) o e = go (where_is xs behind k o e)
  where
    go : IsWhere xs behind k o → IsWhere (Some x ∷ xs) behind (suc k) o
    go (inl h) = inl (suc h.0, h.1, ap (λ l. x ∷ l) h.2)
    go (inr h) = inr (h.0, h.1, ap (λ l. x ∷ l) h.2)

pub all_cat : {X : Type 0} (P : X → Type 0) (xs : List (Option X)) (at : ℕ) (o : X) → slice_get xs at ≡ Some (Some o) → AllByRecursion P (cat xs) → P o
all_cat P [] at o e h = absurd cc
all_cat P (None ∷ xs) zero o e h = absurd (none-some o (same_Some None (Some o) e))
all_cat P (None ∷ xs) (suc at) o e h = all_cat P xs at o e h
all_cat P (Some x ∷ xs) zero o e h = subst P (same_Some x o (same_Some (Some x) (Some o) e)) h.0
all_cat P (Some x ∷ xs) (suc at) o e h = all_cat P xs at o e h.1

pub all_at : {X : Type 0} (P : X → Type 0) (xs : List X) (k : ℕ) (o : X) → slice_get xs k ≡ Some o → AllByRecursion P xs → P o
all_at P [] k o e h = absurd cc
all_at P (x ∷ xs) zero o e h = subst P (same_Some x o e) h.0
all_at P (x ∷ xs) (suc k) o e h = all_at P xs k o e h.1

-- from a number on, the places one after another are those of what begins there
module _ {X : Type 0} (ops : List X) (from : ℕ) where
  abbrev single : ℕ → List ℕ
  single place = place ∷ []

  pub run_is : (k : ℕ) → cat (map (slice_get ops) (gathered single from (from + k))) ≡ take k (drop from ops)
  run_is zero =
      let n : from + 0 ≡ from = omega arith in
      subst (λ n. cat (map (slice_get ops) (gathered single from n)) ≡ []) (sym n) (ap (λ l. cat (map (slice_get ops) l)) (gathered_none single from from (omega arith)))
  run_is (suc k) =
      let n : from + suc k ≡ suc (from + k) = omega arith in
      let here : gathered single from (from + suc k) ≡ gathered single from (from + k) ++ ((from + k) ∷ []) =
      ap (gathered single from) n ∙ gathered_next single from (from + k) (omega arith) in
      ap (λ l. cat (map (slice_get ops) l)) here
      ∙ ap cat (map-append (slice_get ops) (gathered single from (from + k)) ((from + k) ∷ []))
      ∙ cat_append (map (slice_get ops) (gathered single from (from + k))) (slice_get ops (from + k) ∷ [])
      ∙ ap (λ l. l ++ cat (slice_get ops (from + k) ∷ [])) (run_is k)
      ∙ ap (λ l. take k (drop from ops) ++ l) (only (slice_get ops (from + k)) ∙ ap listed (sym (get_dropped from k ops)))
      ∙ sym (take_next k (drop from ops))
    where
      only : (x : Option X) → cat (x ∷ []) ≡ listed x
      only None = refl
      only (Some x) = refl
