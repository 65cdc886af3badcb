-- The counts of a list with one kind more at its end.
use Rattle.std.proofs.Common.{◌≡◌, ℕ, ◌+◌, ◌≤◌, Bool, true, false, not, cond, if◌then◌else◌, Some, unwrap_or, List, [], ◌∷◌, ◌++◌, length, map, filter, refl, sym, ap, ◌∙◌, arith}
use Rattle.std.specs.List.{count_by}
use Rattle.std.specs.Map.{lookup}
use Rattle.std.proofs.lemmas.List.Sums.{sum_by-cons, count_by-le-length}
use Rattle.std.proofs.lemmas.Map.Entries.{lookup-filter-keys}
use Rattle.indexmap.specs.IndexMap.{insert_entry}
use Rattle.report.specs.Counts.{kinds_in, counts}

zero_plus : (n : ℕ) → 0 + n ≡ n
zero_plus n = omega arith

plus_zero : (n : ℕ) → n + 0 ≡ 0 + n
plus_zero n = omega arith

add_nothing : (n : ℕ) → n + 0 ≡ n
add_nothing n = omega arith

shifted : (a b c : ℕ) → a + (b + c) ≡ (a + b) + c
shifted a b c = omega arith

regrouped : (n : ℕ) → 1 + (n + 1) ≡ 1 + n + 1
regrouped n = omega arith

module _ {K : Type 0} (same : K → K → Bool) (yes : (a : K) → same a a ≡ true) (only : (a b : K) → same a b ≡ true → a ≡ b) where
  -- the entries of other kinds
  abbrev others : K → List (K × ℕ) → List (K × ℕ)
  others k es = filter (λ e. not (same k e.0)) es

  either_way : (a b : K) → same a b ≡ same b a
  either_way a b = go (same a b) (same b a) refl refl
    where
      go : (c d : Bool) → same a b ≡ c → same b a ≡ d → same a b ≡ same b a
      go true d e f = e ∙ sym (ap (λ z. same z a) (sym (only a b e)) ∙ yes a)
      go false true e f = ap (same a) (only b a f) ∙ yes a ∙ sym f
      go false false e f = e ∙ sym f

  -- how often a kind occurs in a list and one kind more at its front
  count-cons : (k x : K) (xs : List K) (b : Bool) → same k x ≡ b → count_by (same k) (x ∷ xs) ≡ cond b 1 0 + count_by (same k) xs
  count-cons k x xs b e = sum_by-cons (λ y. cond (same k y) 1 0) x xs ∙ ap (λ c. cond c 1 0 + count_by (same k) xs) e

  counts_of_others : (x : K) (xs ks : List K) → map (λ k. (k, count_by (same k) (x ∷ xs))) (filter (λ o. not (same x o)) ks) ≡ others x (map (λ k. (k, count_by (same k) xs)) ks)
  counts_of_others x xs [] = refl
  counts_of_others x xs (k ∷ ks) = go (same x k) refl (counts_of_others x xs ks)
    where
      go : (b : Bool) → same x k ≡ b → map (λ k. (k, count_by (same k) (x ∷ xs))) (filter (λ o. not (same x o)) ks) ≡ others x
          (map (λ k. (k, count_by (same k) xs)) ks) → map (λ k. (k, count_by (same k) (x ∷ xs)))
          (cond (not b) (k ∷ filter (λ o. not (same x o)) ks) (filter (λ o. not (same x o)) ks)) ≡ cond (not b)
          ((k, count_by (same k) xs) ∷ others x (map (λ k. (k, count_by (same k) xs)) ks)) (others x (map (λ k. (k, count_by (same k) xs)) ks))
      go true e h = h
      go false e h = ap (λ n. (k, n) ∷ map (λ k. (k, count_by (same k) (x ∷ xs))) (filter (λ o. not (same x o)) ks))
          (count-cons k x xs false (either_way k x ∙ e) ∙ zero_plus _) ∙ ap (λ r. (k, count_by (same k) xs) ∷ r) h

  counts-cons : (x : K) (xs : List K) → counts same (x ∷ xs) ≡ (x, 1 + count_by (same x) xs) ∷ others x (counts same xs)
  counts-cons x xs = ap (λ n. (x, n) ∷ map (λ k. (k, count_by (same k) (x ∷ xs))) (filter (λ o. not (same x o)) (kinds_in same xs)))
      (count-cons x x xs true (yes x)) ∙ ap (λ r. (x, 1 + count_by (same x) xs) ∷ r) (counts_of_others x xs (kinds_in same xs))

  -- an entry of a kind isn't one of the others
  others-insert_own : (k : K) (v : ℕ) (es : List (K × ℕ)) → others k (insert_entry same es k v) ≡ others k es
  others-insert_own k v [] = ap (λ b. cond (not b) ((k, v) ∷ []) []) (yes k)
  others-insert_own k v (e ∷ es) = go (same k e.0) refl (others-insert_own k v es)
    where
      go : (b : Bool) → same k e.0 ≡ b → others k (insert_entry same es k v) ≡ others k es → others k (if b then (e.0, v) ∷ es else e ∷ insert_entry same es k v) ≡ others k (e ∷ es)
      go true f h =
          ap (λ b. cond (not b) ((e.0, v) ∷ others k es) (others k es)) f ∙
          sym (ap (λ b. cond (not b) (e ∷ others k es) (others k es)) f)
      go false f h = ap (λ r. cond (not (same k e.0)) (e ∷ r) r) h

  others-insert_other : (x k : K) (v : ℕ) → same x k ≡ false → (es : List (K × ℕ)) → others x (insert_entry same es k v) ≡ insert_entry same (others x es) k v
  others-insert_other x k v d [] = ap (λ b. cond (not b) ((k, v) ∷ []) []) d
  others-insert_other x k v d (e ∷ es) = go (same k e.0) (same x e.0) refl refl (others-insert_other x k v d es)
    where
      go : (b c : Bool) → same k e.0 ≡ b → same x e.0 ≡ c → others x (insert_entry same es k v) ≡ insert_entry same (others x es) k v
          → others x (if b then (e.0, v) ∷ es else e ∷ insert_entry same es k v) ≡ insert_entry same (cond (not c) (e ∷ others x es) (others x es)) k
          v
      go true true f g h = cc (sym d ∙ ap (same x) (only k e.0 f) ∙ g)
      go true false f g h =
          ap (λ b. cond (not b) ((e.0, v) ∷ others x es) (others x es)) g ∙
          sym (ap (λ b. if b then (e.0, v) ∷ others x es else e ∷ insert_entry same (others x es) k v) f)
      go false true f g h = ap (λ b. cond (not b) (e ∷ others x (insert_entry same es k v)) (others x (insert_entry same es k v))) g ∙ h
      go false false f g h =
          ap (λ b. cond (not b) (e ∷ others x (insert_entry same es k v)) (others x (insert_entry same es k v))) g ∙
          ap (λ r. e ∷ r) h ∙
          sym (ap (λ b. if b then (e.0, v) ∷ others x es else e ∷ insert_entry same (others x es) k v) f)

  -- how often a kind was counted
  abbrev number : List (K × ℕ) → K → ℕ
  number es k = unwrap_or (lookup (same k) es) 0

  number-others : (x k : K) → same x k ≡ false → (es : List (K × ℕ)) → number (others x es) k ≡ number es k
  number-others x k d es =
      ap (λ o. unwrap_or o 0)
      (lookup-filter-keys (same k) (λ o. not (same x o)) true (λ o e. ap (λ b. not b) (ap (same x) (sym (only k o e)) ∙ d)) es)

  count-push : (k x : K) (xs : List K) (b : Bool) → same k x ≡ b → count_by (same k) (xs ++ x ∷ []) ≡ count_by (same k) xs + cond b 1 0
  count-push k x [] b e = count-cons k x [] b e ∙ plus_zero (cond b 1 0)
  count-push k x (y ∷ ys) b e =
      count-cons k y (ys ++ x ∷ []) (same k y) refl ∙ ap (λ n. cond (same k y) 1 0 + n) (count-push k x ys b e) ∙
      shifted (cond (same k y) 1 0) (count_by (same k) ys) (cond b 1 0) ∙
      ap (λ n. n + cond b 1 0) (sym (count-cons k y ys (same k y) refl))

  -- one kind more at the end is one more of its count, or a first one behind the others
  pub counts-push : (k : K) (ks : List K) → counts same (ks ++ k ∷ []) ≡ insert_entry same (counts same ks) k (number (counts same ks) k + 1)
  counts-push k [] = ap (λ n. (k, n) ∷ []) (count-cons k k [] true (yes k))
  counts-push k (x ∷ xs) = go (same k x) refl (counts-push k xs)
    where
      entries : List (K × ℕ)
      entries = counts same xs

      first : ℕ
      first = 1 + count_by (same x) xs

      right : (b : Bool) → same k x ≡ b → insert_entry same (counts same (x ∷ xs)) k (number (counts same (x ∷ xs)) k + 1) ≡
          (if b then (x, unwrap_or (cond b (Some first) (lookup (same k) (others x entries))) 0 + 1) ∷ others x entries else (x, first) ∷ insert_entry
          same (others x entries) k (unwrap_or (cond b (Some first) (lookup (same k) (others x entries))) 0 + 1))
      right b e =
          ap (λ es. insert_entry same es k (number es k + 1)) (counts-cons x xs) ∙
          ap (λ b. if b then (x, unwrap_or (cond b (Some first) (lookup (same k) (others x entries))) 0 + 1) ∷ others x entries else
          (x, first) ∷ insert_entry same (others x entries) k (unwrap_or (cond b (Some first) (lookup (same k) (others x entries))) 0 + 1)) e

      left : (b : Bool) → same x k ≡ b → counts same (xs ++ k ∷ []) ≡ insert_entry same entries k (number entries k + 1)
          → counts same (x ∷ xs ++ k ∷ []) ≡ (x, 1 + (count_by (same x) xs + cond b 1 0)) ∷ others x
          (insert_entry same entries k (number entries k + 1))
      left b e h =
          counts-cons x (xs ++ k ∷ []) ∙ ap (λ n. (x, 1 + n) ∷ others x (counts same (xs ++ k ∷ []))) (count-push x k xs b e) ∙
          ap (λ es. (x, 1 + (count_by (same x) xs + cond b 1 0)) ∷ others x es) h

      go : (b : Bool) → same k x ≡ b → counts same (xs ++ k ∷ []) ≡ insert_entry same entries k (number entries k + 1)
          → counts same (x ∷ xs ++ k ∷ []) ≡ insert_entry same (counts same (x ∷ xs)) k (number (counts same (x ∷ xs)) k + 1)
      go true e h =
          left true (either_way x k ∙ e) h ∙
          ap (λ r. (x, 1 + (count_by (same x) xs + 1)) ∷ r) (ap (λ z. others z (insert_entry same entries k (number entries k + 1)))
          (sym (only k x e)) ∙ others-insert_own k (number entries k + 1) entries ∙ ap (λ z. others z entries) (only k x e)) ∙
          ap (λ n. (x, n) ∷ others x entries) (regrouped (count_by (same x) xs)) ∙
          sym (right true e)
      go false e h =
          left false (either_way x k ∙ e) h ∙
          ap (λ r. (x, 1 + (count_by (same x) xs + 0)) ∷ r) (others-insert_other x k (number entries k + 1) (either_way x k ∙ e) entries) ∙
          ap (λ n. (x, 1 + n) ∷ insert_entry same (others x entries) k (number entries k + 1)) (add_nothing (count_by (same x) xs)) ∙
          ap (λ n. (x, first) ∷ insert_entry same (others x entries) k (n + 1)) (sym (number-others x k (either_way x k ∙ e) entries)) ∙
          sym (right false e)

  number_within : (k : K) (ks cs : List K) → number (map (λ c. (c, count_by (same c) ks)) cs) k ≤ length ks
  number_within k ks [] = omega arith
  number_within k ks (c ∷ cs) = go (same k c) (number_within k ks cs)
    where
      go : (b : Bool) → number (map (λ c. (c, count_by (same c) ks)) cs) k ≤ length ks
          → unwrap_or (cond b (Some (count_by (same c) ks)) (lookup (same k) (map (λ c. (c, count_by (same c) ks)) cs))) 0 ≤ length ks
      go true h = count_by-le-length (same c) ks
      go false h = h

  -- no kind occurs more often than the list is long
  pub number_fits : (k : K) (ks : List K) → number (counts same ks) k ≤ length ks
  number_fits k ks = number_within k ks (kinds_in same ks)
