-- The counts of the elements gone through so far, by their kinds.
use Rattle.std.proofs.Common.{◌≡◌, ℕ, ◌+◌, ◌<◌, ◌≤◌, Bool, true, unwrap_or, List, [], ◌∷◌, ◌++◌, length, map, take, get_or, sym, ap, ◌∙◌, arith}
use Rattle.std.specs.Map.{lookup}
use Rattle.std.proofs.lemmas.List.{take_more, length-map, length-take-le, map-append}
use Rattle.indexmap.specs.IndexMap.{insert_entry}
use Rattle.report.specs.Counts.{counts}
use Rattle.report.proofs.Tally.{counts-push, number_fits}

module _ {X K : Type 0} (kind : X → K) (same : K → K → Bool) (yes : (a : K) → same a a ≡ true) (only : (a b : K) → same a b ≡ true → a ≡ b) where
  -- the kinds of elements
  abbrev kinds : List X → List K
  kinds xs = map kind xs

  -- one more element is one more of its kind
  pub counted_more : (xs : List X) (i : ℕ) (x : X) (eq : K → K → Bool) (k : K) (old new : List (K × ℕ)) (number : ℕ) → i < length xs
      → x ≡ get_or xs i x → eq ≡ same → k ≡ kind x → old ≡ counts same (kinds (take i xs)) → number ≡ unwrap_or (lookup (eq k) old) 0
      → new ≡ insert_entry eq old k (number + 1) → new ≡ counts same (kinds (take (i + 1) xs))
  counted_more xs i x eq k old new number l at s e h n put =
      let one : kinds (take (i + 1) xs) ≡ kinds (take i xs) ++ k ∷ [] =
      ap kinds (take_more xs i x l ∙ ap (λ x. take i xs ++ x ∷ []) (sym at)) ∙
      map-append kind (take i xs) (x ∷ []) ∙ ap (λ k. kinds (take i xs) ++ k ∷ []) (sym e) in
      put ∙ ap (λ n. insert_entry eq old k (n + 1)) n ∙
      ap (λ eq. insert_entry eq old k (unwrap_or (lookup (eq k) old) 0 + 1)) s ∙
      ap (λ es. insert_entry same es k (unwrap_or (lookup (same k) es) 0 + 1)) h ∙
      sym (counts-push same yes only k (kinds (take i xs))) ∙ ap (counts same) (sym one)

  -- so far there are no more of a kind than elements
  pub counted_fits : (xs : List X) (i : ℕ) (eq : K → K → Bool) (k : K) (old : List (K × ℕ)) (number : ℕ) → i < length xs → eq ≡ same
      → old ≡ counts same (kinds (take i xs)) → number ≡ unwrap_or (lookup (eq k) old) 0 → number ≤ i
  counted_fits xs i eq k old number l s h n =
      let fits : unwrap_or (lookup (same k) (counts same (kinds (take i xs)))) 0 ≤ length (kinds (take i xs)) = number_fits same yes only k (kinds (take i xs)) in
      let e : number ≡ unwrap_or (lookup (same k) (counts same (kinds (take i xs)))) 0 =
      n ∙ ap (λ eq. unwrap_or (lookup (eq k) old) 0) s ∙ ap (λ es. unwrap_or (lookup (same k) es) 0) h in
      let long : length (kinds (take i xs)) ≡ i =
      length-map (take i xs) kind ∙ length-take-le i xs (omega arith) in
      omega arith
