-- Lists in another order, with one element more.
use Rattle.std.proofs.Common.{◌≡◌, ◌∙◌, ◌+◌, sym, refl, ap, subst, ℕ, suc, List, [], ◌∷◌, ◌++◌, length, append_assoc, arith}
use Rattle.std.specs.List.Sorted.{IsPermutation}
use Rattle.std.proofs.lemmas.List.Sorted.{IsPermutation-trans, IsPermutation-append_comm, IsPermutation-append_left, IsPermutation-append_right}
use Rattle.tasks.specs.Answered.{numbered}

module _ {X : Type 0} (xs ls rs : List X) (d : X) (h : IsPermutation xs (ls ++ rs)) where
  -- one more behind the first part
  pub perm_first : IsPermutation (xs ++ d ∷ []) ((ls ++ d ∷ []) ++ rs)
  perm_first =
      IsPermutation-trans (xs ++ d ∷ []) ((ls ++ rs) ++ d ∷ []) ((ls ++ d ∷ []) ++ rs)
      (IsPermutation-append_left (d ∷ []) xs (ls ++ rs) h)
      (subst (λ l. IsPermutation l ((ls ++ d ∷ []) ++ rs)) (sym (append_assoc ls rs (d ∷ [])))
      (subst (IsPermutation (ls ++ (rs ++ d ∷ []))) (sym (append_assoc ls (d ∷ []) rs))
      (IsPermutation-append_right ls (rs ++ d ∷ []) (d ∷ rs) (IsPermutation-append_comm rs (d ∷ [])))))

  -- one more behind the last one
  pub perm_last : IsPermutation (xs ++ d ∷ []) (ls ++ (rs ++ d ∷ []))
  perm_last = subst (IsPermutation (xs ++ d ∷ [])) (append_assoc ls rs (d ∷ [])) (IsPermutation-append_left (d ∷ []) xs (ls ++ rs) h)

-- one more behind the middle one of three parts
pub perm_middle : {X : Type 0} (xs ls ms rs : List X) (d : X) → IsPermutation xs (ls ++ (ms ++ rs)) → IsPermutation (xs ++ d ∷ []) (ls ++ ((ms ++ d ∷ []) ++ rs))
perm_middle xs ls ms rs d h =
    subst (IsPermutation (xs ++ d ∷ [])) (ap (λ l. l ++ rs) (append_assoc ls ms (d ∷ [])) ∙ append_assoc ls (ms ++ d ∷ []) rs)
    (perm_first xs (ls ++ ms) rs d (subst (IsPermutation xs) (sym (append_assoc ls ms rs)) h))

-- one task more has the next number
pub numbered-push : {T : Type 0} (n m : ℕ) (ts : List T) (t : T) → m ≡ n + length ts → numbered n (ts ++ t ∷ []) ≡ numbered n ts ++ record { number = m; task = t } ∷ []
numbered-push n m [] t same =
    let e : n ≡ m = omega (arith, same) in
    ap (λ (i : ℕ). record { number = i; task = t } ∷ []) e
numbered-push n m (u ∷ ts) t same = ap (λ l. record { number = n; task = u } ∷ l) (numbered-push (suc n) m ts t (omega (arith, same)))

pub length-numbered : {T : Type 0} (n : ℕ) (ts : List T) → length (numbered n ts) ≡ length ts
length-numbered n [] = refl
length-numbered n (t ∷ ts) = ap suc (length-numbered (suc n) ts)
