-- Every text is one of the grammar or has a first faulty line: none is neither.
use Rattle.std.proofs.Common.{◌≡◌, ◌≢◌, ℕ, zero, suc, ◌+◌, ◌<◌, ◌⊎◌, List, [], ◌∷◌, ◌++◌, length, Bool, true, false, refl, ap, ◌∙◌, arith, inl, inr}
use mathlib.Core.Logic.{⊎_elim}
use Rattle.std.proofs.lemmas.Bool.{cases_order}
use Rattle.std.proofs.lemmas.List.{length-append}
use Rattle.std.proofs.lemmas.List.Elements.{All-nil, All-cons}
use Rattle.history.specs.declared.text_causes.TextCause.{TextCause}
use Rattle.history.specs.declared.text_causes.TextCause.TheVariants.{End, Form, Range, Extra}
use Rattle.text_io.specs.Lines.{HasNo, line}
use Rattle.text_io.specs.Grammars.{Grammar, state_after, Begins, IsText, IsFirstFault}
use Rattle.text_io.proofs.Faults.{Begins-nothing, Begins-more, IsText-whole, first_fault-end, first_fault-line, first_fault-extra}

-- a line at the front of a text, and the rest
record Front (text : List ℕ) : Type 0 where
  says : List ℕ
  later : List ℕ
  whole : HasNo 10 says
  split : text ≡ line says ++ later

-- a text has no line feed, or a line at its front
front_or_none : (text : List ℕ) → HasNo 10 text ⊎ Front text
front_or_none [] = inl (All-nil (λ b. b ≢ 10))
front_or_none (b ∷ text) = by (is_feed b) (front_or_none text)
  where
    is_feed : (b : ℕ) → (b ≡ 10) ⊎ (b ≢ 10)
    is_feed b = ⊎_elim inl (λ other. inr (λ e. ⊎_elim (λ low. omega (arith, low, e)) (λ high. omega (arith, high, e)) other)) (cases_order b 10)

    by : (b ≡ 10) ⊎ (b ≢ 10) → HasNo 10 text ⊎ Front text → HasNo 10 (b ∷ text) ⊎ Front (b ∷ text)
    by (inl feed) rest = inr (record { says = []; later = text; whole = All-nil (λ b. b ≢ 10); split = ap (λ (b : ℕ). b ∷ text) feed })
    by (inr other) (inl none) = inl (All-cons (λ b. b ≢ 10) b text other none)
    by (inr other) (inr front) =
        inr (record { says = b ∷ front.says; later = front.later; whole = All-cons (λ b. b ≢ 10) b front.says other front.whole; split = ap (λ (rest : List ℕ). b ∷ rest) front.split })

-- what follows a line is shorter
shorter : (rest : List ℕ) (front : Front rest) → length front.later < length rest
shorter rest front =
    let whole : length rest ≡ length (line front.says ++ front.later) = ap length front.split in
    omega (arith, whole, length-append (line front.says) front.later, length-append front.says (10 ∷ []))

module _ {S R : Type 0} (g : Grammar S R) (s : S) (text : List ℕ) (no_text : (rs : List R) → ¬ IsText g s rs text)
    (no_fault : (number : ℕ) (cause : TextCause) → ¬ IsFirstFault g s text number cause) where
  -- where no line is due
  stops : (before : List R) (rest : List ℕ) → Begins g s before text rest → g.is_due (state_after g s before) ≡ false → ⊥
  stops before [] begins done = no_text before (IsText-whole g s (state_after g s before) before text [] begins refl done refl)
  stops before (b ∷ rest) begins done =
      no_fault (1 + length before) Extra (first_fault-extra g s (state_after g s before) before text (b ∷ rest) (1 + length before) begins refl refl done (λ e. absurd cc))

  -- where one is due, and what is read after it can't be
  goes_on : (before : List R) (rest : List ℕ) → Begins g s before text rest → g.is_due (state_after g s before) ≡ true
      → ((r : R) (later : List ℕ) → length later < length rest → Begins g s (before ++ r ∷ []) text later → ⊥) → ⊥
  goes_on before rest begins due more = by (front_or_none rest)
    where
      by : HasNo 10 rest ⊎ Front rest → ⊥
      by (inl none) = no_fault (1 + length before) End (first_fault-end g s (state_after g s before) before text rest (1 + length before) begins refl refl due none)
      by (inr front) =
          no_fault (1 + length before) Form
          (first_fault-line g s (state_after g s before) before text rest front.says front.later (1 + length before) Form begins refl refl due front.split front.whole
          (λ r said. no_fault (1 + length before) Range
          (first_fault-line g s (state_after g s before) before text rest front.says front.later (1 + length before) Range begins refl refl due front.split front.whole (
            r,
            said,
            λ range. more r front.later (shorter rest front) (Begins-more g s (state_after g s before) before r text rest front.later begins refl due said.may range
                (front.split ∙ ap (λ (says : List ℕ). line says ++ front.later) said.spelled)),
          ))))

  reads_on : (k : ℕ) (before : List R) (rest : List ℕ) → length rest < k → Begins g s before text rest → ⊥
  reads_on zero before rest short begins = absurd (omega arith)
  reads_on (suc k) before rest short begins = by (g.is_due (state_after g s before)) refl (λ r later less next. reads_on k (before ++ r ∷ []) later (omega (arith, less, short)) next)
    where
      by : (b : Bool) → g.is_due (state_after g s before) ≡ b → ((r : R) (later : List ℕ) → length later < length rest → Begins g s (before ++ r ∷ []) text later → ⊥) → ⊥
      by true due more = goes_on before rest begins due more
      by false done more = stops before rest begins done

  -- a text is not neither
  pub not_neither : ⊥
  not_neither = reads_on (suc (length text)) [] text (omega arith) (Begins-nothing g s text)
