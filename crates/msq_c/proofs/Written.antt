-- What C gets of values, written from the front of a list.
use Rattle.std.proofs.Common.{◌≡◌, ℕ, ◌+◌, ◌^◌, ◌<◌, ◌≤◌, List, [], ◌∷◌, ◌++◌, map, length, take, drop, set, get_or, refl, ap, ◌∙◌, sym, arith, append_assoc}
use Rattle.std.proofs.lemmas.List.{take_all, drop_all, drop_more, set_at, take-append-le, length_push, length-map, map_push}
use Rattle.msq_c.specs.Values.{count_told, AreLaid}

module _ {A B : Type 0} (told : A → B) where
  -- one value more, where there is room
  laid_more : (xs vs : List B) (y : B) (n m : ℕ) → length vs ≡ n → length xs ≡ m → m < n
      → set (take n xs ++ drop m vs) m y ≡ take n (xs ++ y ∷ []) ++ drop (m + 1) vs
  laid_more xs vs y n m en em l =
      ap (λ zs. set (zs ++ drop m vs) m y) (take_all n xs (omega (arith, em))) ∙
      ap (λ zs. set (xs ++ zs) m y) (drop_more vs m y (omega (arith, en))) ∙
      set_at xs (get_or vs m y) (drop (m + 1) vs) y m em ∙
      sym (append_assoc xs (y ∷ []) (drop (m + 1) vs)) ∙
      ap (λ zs. zs ++ drop (m + 1) vs) (sym (take_all n (xs ++ y ∷ []) (omega (arith, length_push xs y, em))))

  -- one value more, where there is no room
  laid_past : (xs vs : List B) (y : B) (n m : ℕ) → length vs ≡ n → length xs ≡ m → n ≤ m
      → take n xs ++ drop m vs ≡ take n (xs ++ y ∷ []) ++ drop (m + 1) vs
  laid_past xs vs y n m en em l =
      ap (λ zs. zs ++ drop m vs) (sym (take-append-le n xs (y ∷ []) (omega (arith, em)))) ∙
      ap (λ zs. take n (xs ++ y ∷ []) ++ zs) (drop_all m vs (omega (arith, en)) ∙ sym (drop_all (m + 1) vs (omega (arith, en))))

  laid_pushed : (left : List A) (t : A) (vs : List B)
      → take (length vs) (map told left ++ told t ∷ []) ++ drop (length left + 1) vs ≡ take (length vs) (map told (left ++ t ∷ [])) ++ drop (length (left ++ t ∷ [])) vs
  laid_pushed left t vs =
      ap (λ zs. take (length vs) zs ++ drop (length left + 1) vs) (sym (map_push told left t)) ∙
      ap (λ k. take (length vs) (map told (left ++ t ∷ [])) ++ drop k vs) (sym (length_push left t))

  -- the next value was written, where there is room for it
  pub written_more : (left : List A) (t : A) (vs now : List B) (n : ℕ) → n ≡ count_told left → length now ≡ length vs → length vs < 2 ^ 64 → n < length now
      → AreLaid told left vs now → AreLaid told (left ++ t ∷ []) vs (set now n (told t))
  written_more left t vs now n e same fits l w =
      let m : n ≡ length left = omega (arith, e) in
      ap (λ zs. set zs n (told t)) w ∙
      ap (λ k. set (take (length vs) (map told left) ++ drop (length left) vs) k (told t)) m ∙
      laid_more (map told left) vs (told t) (length vs) (length left) refl (length-map left told) (omega (arith, m)) ∙
      laid_pushed left t vs

  -- nothing was written, where there is no room
  pub written_past : (left : List A) (t : A) (vs now : List B) (n : ℕ) → n ≡ count_told left → length now ≡ length vs → length now ≤ n
      → AreLaid told left vs now → AreLaid told (left ++ t ∷ []) vs now
  written_past left t vs now n e same l w =
      w ∙ laid_past (map told left) vs (told t) (length vs) (length left) refl (length-map left told) (omega (arith, e)) ∙ laid_pushed left t vs
