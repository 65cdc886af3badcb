-- Slots that are filled tell of each task what became of it.
use Rattle.std.proofs.Common.{◌≡◌, ◌∙◌, ◌<◌, inl, inr, sym, refl, ap, subst, ℕ, zero, suc, List, [], ◌∷◌, ◌++◌, map, length, replicate, set, get_or, Option, Some, None, slice_get, arith}
use Rattle.std.specs.List.{All}
use Rattle.std.proofs.lemmas.List.{length-set}
use Rattle.tasks.specs.declared.answers.Outcome.{Outcome}
use Rattle.tasks.specs.Tasks.{Tells, AreTold}
use Rattle.tasks.specs.Gathers.{IsFilled, fills}
use Rattle.tasks.proofs.Lying.{Lies}

-- the element that is there, and else another
abbrev there_or : {X : Type 0} → X → Option X → X
there_or d None = d
there_or d (Some x) = x

pub some_same : {X : Type 0} (x y : X) → Some x ≡ Some y → x ≡ y
some_same x y h = ap (there_or x) h

none_some : {X : Type 0} (x : X) → None ≡ Some x → ⊥
none_some x h = absurd (let e : None ≡ Some x = h in cc)

module _ {T A : Type 0} where
  -- the slot of this number is filled
  abbrev pub Filled : List (Option (Outcome T A)) → ℕ → Type 0
  Filled [] n = ⊥
  Filled (s ∷ ss) zero = IsFilled s
  Filled (s ∷ ss) (suc n) = Filled ss n

  filled-set : (ss : List (Option (Outcome T A))) (n m : ℕ) (o : Outcome T A) → Filled ss m → Filled (set ss n (Some o)) m
  filled-set [] n m o h = h
  filled-set (s ∷ ss) zero zero o h = tt
  filled-set (s ∷ ss) zero (suc m) o h = h
  filled-set (s ∷ ss) (suc n) zero o h = h
  filled-set (s ∷ ss) (suc n) (suc m) o h = filled-set ss n m o h

  set-filled : (ss : List (Option (Outcome T A))) (n : ℕ) (o : Outcome T A) → n < length ss → Filled (set ss n (Some o)) n
  set-filled [] n o h = absurd (omega (arith, h))
  set-filled (s ∷ ss) zero o h = tt
  set-filled (s ∷ ss) (suc n) o h = set-filled ss n o (omega (arith, h))

  pub length-fills : (ss : List (Option (Outcome T A))) (ps : List (ℕ × Outcome T A)) → length (fills ss ps) ≡ length ss
  length-fills ss [] = refl
  length-fills ss (p ∷ ps) = length-fills (set ss p.0 (Some p.1)) ps ∙ length-set ss p.0 (Some p.1)

  pub fills-append : (ss : List (Option (Outcome T A))) (ps qs : List (ℕ × Outcome T A)) → fills ss (ps ++ qs) ≡ fills (fills ss ps) qs
  fills-append ss [] qs = refl
  fills-append ss (p ∷ ps) qs = fills-append (set ss p.0 (Some p.1)) ps qs

  pub fills-keeps : (ss : List (Option (Outcome T A))) (ps : List (ℕ × Outcome T A)) (m : ℕ) → Filled ss m → Filled (fills ss ps) m
  fills-keeps ss [] m h = h
  fills-keeps ss (p ∷ ps) m h = fills-keeps (set ss p.0 (Some p.1)) ps m (filled-set ss p.0 m p.1 h)

  -- a slot is filled under whose number something was put
  pub fills-filled : (ss : List (Option (Outcome T A))) (ps : List (ℕ × Outcome T A)) (p : ℕ × Outcome T A) → Lies p ps → p.0 < length ss → Filled (fills ss ps) p.0
  fills-filled ss [] p h low = absurd h
  fills-filled ss (q ∷ ps) p (inl e) low = fills-keeps (set ss q.0 (Some q.1)) ps p.0
      (subst (λ n. Filled (set ss q.0 (Some q.1)) n) (ap (λ (r : ℕ × Outcome T A). r.0) e)
      (set-filled ss q.0 q.1 (subst (λ n. n < length ss) (sym (ap (λ (r : ℕ × Outcome T A). r.0) e)) low)))
  fills-filled ss (q ∷ ps) p (inr h) low = fills-filled (set ss q.0 (Some q.1)) ps p h (subst (λ n. p.0 < n) (sym (length-set ss q.0 (Some q.1))) low)

  -- each slot is filled
  filled-at : (ss : List (Option (Outcome T A))) (k : ℕ) (d : Option (Outcome T A)) → Filled ss k → IsFilled (get_or ss k d)
  filled-at [] k d h = absurd h
  filled-at (s ∷ ss) zero d h = h
  filled-at (s ∷ ss) (suc k) d h = filled-at ss k d h

  pub all_filled : (ss : List (Option (Outcome T A))) → ((n : ℕ) → n < length ss → Filled ss n) → All IsFilled ss
  all_filled ss h k d low = filled-at ss k d (h k low)

module _ {T A : Type 0} (answers : T → A → Type 0) where
  -- a filled slot tells of the task of its number
  abbrev pub Fits : List T → List (Option (Outcome T A)) → Type 0
  Fits [] [] = Unit {0}
  Fits [] (s ∷ ss) = ⊥
  Fits (t ∷ ts) [] = ⊥
  Fits (t ∷ ts) (None ∷ ss) = Fits ts ss
  Fits (t ∷ ts) (Some o ∷ ss) = Tells answers t o × Fits ts ss

  pub fits-none : (ts : List T) → Fits ts (replicate (length ts) None)
  fits-none [] = tt
  fits-none (t ∷ ts) = fits-none ts

  fits-rest : (t : T) (ts : List T) (s : Option (Outcome T A)) (ss : List (Option (Outcome T A))) → Fits (t ∷ ts) (s ∷ ss) → Fits ts ss
  fits-rest t ts None ss h = h
  fits-rest t ts (Some o) ss h = h.1

  fits-more : (t : T) (ts : List T) (s : Option (Outcome T A)) (ss ss' : List (Option (Outcome T A))) → Fits (t ∷ ts) (s ∷ ss) → Fits ts ss' → Fits (t ∷ ts) (s ∷ ss')
  fits-more t ts None ss ss' h k = k
  fits-more t ts (Some o) ss ss' h k = (h.0, k)

  fits-set : (ts : List T) (ss : List (Option (Outcome T A))) (n : ℕ) (t : T) (o : Outcome T A) → Fits ts ss → slice_get ts n ≡ Some t → Tells answers t o → Fits ts (set ss n (Some o))
  fits-set [] ss n t o h at tells = absurd (none_some t at)
  fits-set (u ∷ ts) [] n t o h at tells = h
  fits-set (u ∷ ts) (s ∷ ss) zero t o h at tells = (subst (λ x. Tells answers x o) (sym (some_same u t at)) tells, fits-rest u ts s ss h)
  fits-set (u ∷ ts) (s ∷ ss) (suc n) t o h at tells = fits-more u ts s ss (set ss n (Some o)) h (fits-set ts ss n t o (fits-rest u ts s ss h) at tells)

  -- what is put under a number tells of its task
  pub record IsToldOf (ts : List T) (p : ℕ × Outcome T A) : Type 0 where
    pub task : T
    pub at : slice_get ts p.0 ≡ Some task
    pub tells : Tells answers task p.1

  pub fits-fills : (ts : List T) (ss : List (Option (Outcome T A))) (ps : List (ℕ × Outcome T A)) → Fits ts ss → ((p : ℕ × Outcome T A) → Lies p ps → IsToldOf ts p) → Fits ts (fills ss ps)
  fits-fills ts ss [] h of = h
  fits-fills ts ss (p ∷ ps) h of =
      let one = of p (inl refl) in
      fits-fills ts (set ss p.0 (Some p.1)) ps (fits-set ts ss p.0 one.task p.1 h one.at one.tells) (λ q lies. of q (inr lies))

  -- slots that are filled tell of each task once
  pub fits-told : (ts : List T) (os : List (Outcome T A)) → Fits ts (map (λ o. Some o) os) → AreTold answers ts os
  fits-told [] [] h = tt
  fits-told [] (o ∷ os) h = h
  fits-told (t ∷ ts) [] h = h
  fits-told (t ∷ ts) (o ∷ os) h = (h.0, fits-told ts os h.1)
