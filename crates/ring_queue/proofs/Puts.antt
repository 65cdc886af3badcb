-- One of many changed.
use Rattle.std.proofs.Common.{◌⊎◌, ⊎_elim, inl, inr, List, [], ◌∷◌, ◌++◌, length, set, Some, slice_get, ◌∙◌, ◌≡◌, ◌≢◌, ℕ, zero, suc}
use Rattle.std.proofs.Common.{if◌then◌else◌, sym, refl, ap, subst, arith, ne_eqb}
use Rattle.std.proofs.lemmas.Bool.{eq-eqb}
use mathlib.Core.Logic.{dite}
use native.Mathlib.Decide.{dec_le}
use Rattle.ring_queue.specs.Rule.{put}

-- two numbers are one, or not
pub same_or_not : {X : Type 0} (k n : ℕ) → (k ≡ n → X) → (k ≢ n → X) → X
same_or_not k n same apart =
    dite (dec_le k n)
    (λ le. dite (dec_le n k) (λ ge. same (omega arith)) (λ lt. apart (λ e. lt (omega (arith, e)))))
    (λ gt. apart (λ e. gt (omega (arith, e))))

pub put_here : {X : Type 0} (f : ℕ → X) (n k : ℕ) (x : X) → k ≡ n → put f n x k ≡ x
put_here f n k x e = ap (λ b. if b then x else f k) (eq-eqb k n e)

pub put_else : {X : Type 0} (f : ℕ → X) (n k : ℕ) (x : X) → k ≢ n → put f n x k ≡ f k
put_else f n k x ne = ap (λ b. if b then x else f k) (ne_eqb k n ne)

-- a fact of each of many, where one changed
pub put_each : {X : Type 0} (f : ℕ → X) (n k : ℕ) (x : X) (P : ℕ → X → Type 0) → P n x → (k ≢ n → P k (f k)) → P k (put f n x k)
put_each f n k x P here other =
    same_or_not k n
    (λ e. subst (P k) (sym (put_here f n k x e)) (subst (λ m. P m x) (sym e) here))
    (λ ne. subst (P k) (sym (put_else f n k x ne)) (other ne))

-- the elements of a list with one more
pub got_snoc : {A : Type 0} (xs : List A) (a b : A) (k : ℕ) → slice_get (xs ++ a ∷ []) k ≡ Some b → (slice_get xs k ≡ Some b) ⊎ ((k ≡ length xs) × (a ≡ b))
got_snoc [] a b zero e = inr (refl, cc)
got_snoc [] a b (suc k) e = cc
got_snoc (x ∷ xs) a b zero e = inl e
got_snoc (x ∷ xs) a b (suc k) e = ⊎_elim (λ t. inl t) (λ (t : (k ≡ length xs) × (a ≡ b)). inr (ap suc t.0, t.1)) (got_snoc xs a b k e)

-- a word written twice, and one of many changed twice
pub set_twice : (words : List ℕ) (i a b : ℕ) → set (set words i a) i b ≡ set words i b
set_twice [] i a b = refl
set_twice (w ∷ ws) zero a b = refl
set_twice (w ∷ ws) (suc i) a b = ap (λ us. w ∷ us) (set_twice ws i a b)

pub put_twice : {X : Type 0} (f : ℕ → X) (n : ℕ) (x y : X) → put (put f n x) n y ≡ put f n y
put_twice f n x y i k = at k i
  where
    at : (k : ℕ) → put (put f n x) n y k ≡ put f n y k
    at k = same_or_not k n
        (λ e. put_here (put f n x) n k y e ∙ sym (put_here f n k y e))
        (λ ne. put_else (put f n x) n k y ne ∙ (put_else f n k x ne ∙ sym (put_else f n k y ne)))
