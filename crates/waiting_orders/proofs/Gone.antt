-- Which place is gone of some places, where one is.
use Rattle.std.proofs.Common.{Bool, true, false, nat_lt, ◌≡◌, ◌⊎◌, inl, inr, ℕ, zero, suc, ◌+◌, ◌<◌, ◌-◌, List, [], ◌∷◌, None, Some, slice_get, unwrap_or, refl, sym, ap, ◌∙◌, subst, arith}
use Rattle.waiting_orders.specs.Lines.{Left, without}
use Rattle.waiting_orders.specs.Reached.{IsRest}
use Rattle.std.proofs.lemmas.Bool.{ltb-true, ltb-false}

-- all before a place are the same
abbrev pub SameTo : ℕ → (kept after : List ℕ) → Type 0
SameTo to kept after = (i : ℕ) → i < to → slice_get kept i ≡ slice_get after i

pub same_none : (kept after : List ℕ) → SameTo 0 kept after
same_none kept after i l = absurd (omega (arith, l))

pub same_more : (to : ℕ) (kept after : List ℕ) → SameTo to kept after → slice_get kept to ≡ slice_get after to → SameTo (to + 1) kept after
same_more to kept after same e i l = go (nat_lt i to) refl
  where
    go : (b : Bool) → nat_lt i to ≡ b → slice_get kept i ≡ slice_get after i
    go true k = same i (ltb-true i to k)
    go false k = let n = ltb-false i to k in let is : to ≡ i = omega (arith, l, n) in subst (λ i. slice_get kept i ≡ slice_get after i) is e

-- there they differ, or one of the lists ends
abbrev pub Differ : ℕ → (kept after : List ℕ) → Type 0
Differ at kept after = (slice_get after at ≡ None) ⊎ (slice_get kept at ≡ slice_get after at → ⊥)

-- the first place at which they differ has what is gone
first_is : (kept : List ℕ) (at place to : ℕ) → slice_get kept at ≡ Some place → SameTo to kept (without at kept) → Differ to kept (without at kept) → slice_get kept to ≡ Some place
first_is [] at place to e same differ = absurd cc
first_is (x ∷ xs) zero place zero e same differ = e
first_is (x ∷ []) zero place (suc to) e same differ = absurd (let f = same 0 (omega arith) in cc)
first_is (x ∷ y ∷ ys) zero place (suc to) e same differ = first_is (y ∷ ys) zero place to (sym (same 0 (omega arith)) ∙ e) (λ i l. same (suc i) (omega (arith, l))) differ
first_is (x ∷ xs) (suc at) place zero e same (inl n) = absurd cc
first_is (x ∷ xs) (suc at) place zero e same (inr n) = absurd (n refl)
first_is (x ∷ xs) (suc at) place (suc to) e same differ = first_is xs at place to e (λ i l. same (suc i) (omega (arith, l))) differ

pub first_gone_is : (kept after : List ℕ) (to : ℕ) → SameTo to kept after → Differ to kept after → (at place : ℕ) → slice_get kept at ≡ Some place → after ≡ without at kept
    → unwrap_or (slice_get kept to) 0 ≡ place
first_gone_is kept after to same differ at place e f =
    ap (λ x. unwrap_or x 0) (first_is kept at place to e (subst (SameTo to kept) f same) (subst (Differ to kept) f differ))

-- the place that is gone isn't one of those kept where all from a later place on are left
pub later_gone : (before after : Left) (place : ℕ) → before.from < after.from → IsRest place before after → after.from - 1 ≡ place
later_gone before after place l (inl h) = absurd (let e : after.from ≡ before.from = ap (λ r. r.from) h.2 in omega (arith, l, e))
later_gone before after place l (inr h) = let e : after.from ≡ place + 1 = ap (λ r. r.from) h.1 in omega (arith, e)

pub kept_gone : (before after : Left) (place gone : ℕ) → (before.from < after.from → ⊥)
    → ((at place : ℕ) → slice_get before.kept at ≡ Some place → after.kept ≡ without at before.kept → gone ≡ place) → IsRest place before after → gone ≡ place
kept_gone before after place gone l is (inl h) = is h.0 place h.1 (ap (λ r. r.kept) h.2)
kept_gone before after place gone l is (inr h) = absurd (l (let e : after.from ≡ place + 1 = ap (λ r. r.from) h.1 in let b = h.0 in omega (arith, e, b)))
