-- Texts that are read a line at a time.
use Rattle.std.proofs.Common.{◌≡◌, ◌≢◌, ℕ, ◌+◌, List, [], ◌∷◌, ◌++◌, length, true, false, refl, sym, ap, ◌∙◌, append_assoc, subst}
use Rattle.std.proofs.lemmas.List.{append-nil}
use Rattle.history.specs.declared.text_causes.TextCause.{TextCause}
use Rattle.history.specs.declared.text_causes.TextCause.TheVariants.{End, Form, Range, Extra}
use Rattle.text_io.specs.Lines.{HasNo, line}
use Rattle.text_io.specs.LineReadings.{IsWrong}
use Rattle.text_io.specs.Grammars.{Grammar, Says, AreDue, state_after, lines_of, Begins, IsText, IsWrongLine, IsFirstFault}

-- one more line that is due
pub AreDue-push : {S R : Type 0} (g : Grammar S R) (s : S) (rs : List R) (r : R) → AreDue g s rs → g.is_due (state_after g s rs) ≡ true
    → g.may_say (state_after g s rs) r → g.in_range (state_after g s rs) r → AreDue g s (rs ++ r ∷ [])
AreDue-push g s [] r due next may range = (next, may, range, tt)
AreDue-push g s (q ∷ rs) r due next may range = (due.0, due.1, due.2, AreDue-push g (g.after s q) rs r due.3 next may range)

-- the text of one more line
pub lines_of-push : {S R : Type 0} (g : Grammar S R) (rs : List R) (r : R) → lines_of g (rs ++ r ∷ []) ≡ lines_of g rs ++ line (g.words r)
lines_of-push g [] r = append-nil (line (g.words r))
lines_of-push g (q ∷ rs) r = ap (λ (later : List ℕ). line (g.words q) ++ later) (lines_of-push g rs r) ∙ sym (append_assoc (line (g.words q)) (lines_of g rs) (line (g.words r)))

-- before the first line nothing is read
pub Begins-nothing : {S R : Type 0} (g : Grammar S R) (s : S) (text : List ℕ) → Begins g s [] text text
Begins-nothing g s text = record { due = tt; spelled = refl }

-- one more line is read
pub Begins-more : {S R : Type 0} (g : Grammar S R) (s t : S) (rs : List R) (r : R) (text rest later : List ℕ) → Begins g s rs text rest → state_after g s rs ≡ t
    → g.is_due t ≡ true → g.may_say t r → g.in_range t r → rest ≡ line (g.words r) ++ later → Begins g s (rs ++ r ∷ []) text later
Begins-more g s t rs r text rest later begins state due may range split =
    record {
      due = AreDue-push g s rs r begins.due (ap g.is_due state ∙ due) (subst (λ t. g.may_say t r) (sym state) may) (subst (λ t. g.in_range t r) (sym state) range);
      spelled =
          begins.spelled ∙ ap (λ (later : List ℕ). lines_of g rs ++ later) split ∙ sym (append_assoc (lines_of g rs) (line (g.words r)) later)
          ∙ ap (λ (front : List ℕ). front ++ later) (sym (lines_of-push g rs r));
    }

-- all is read, and no further line is due
pub IsText-whole : {S R : Type 0} (g : Grammar S R) (s t : S) (rs : List R) (text rest : List ℕ) → Begins g s rs text rest → state_after g s rs ≡ t
    → g.is_due t ≡ false → rest ≡ [] → IsText g s rs text
IsText-whole g s t rs text rest begins state done empty = record { lines = subst (λ rest. Begins g s rs text rest) empty begins; done = ap g.is_due state ∙ done }

-- a line is due, and there is no further line feed
pub first_fault-end : {S R : Type 0} (g : Grammar S R) (s t : S) (rs : List R) (text rest : List ℕ) (number : ℕ) → Begins g s rs text rest → state_after g s rs ≡ t
    → number ≡ 1 + length rs → g.is_due t ≡ true → HasNo 10 rest → IsFirstFault g s text number End
first_fault-end g s t rs text rest number begins state counted due none =
    record { before = rs; rest = rest; begins = begins; counted = counted; fault = (ap g.is_due state ∙ due, none) }

-- a line is due, and the next one is wrong
pub first_fault-line : {S R : Type 0} (g : Grammar S R) (s t : S) (rs : List R) (text rest says later : List ℕ) (number : ℕ) (cause : TextCause) → Begins g s rs text rest
    → state_after g s rs ≡ t → number ≡ 1 + length rs → g.is_due t ≡ true → rest ≡ line says ++ later → HasNo 10 says
    → IsWrong (Says g t says) (g.in_range t) cause → IsFirstFault g s text number cause
first_fault-line g s t rs text rest says later number cause begins state counted due split whole wrong = by cause wrong
  where
    there : (cause : TextCause) → IsWrong (Says g t says) (g.in_range t) cause → IsWrongLine g (state_after g s rs) rest cause
    there cause wrong = subst (λ t. IsWrongLine g t rest cause) (sym state) (record { due = due; says = says; later = later; split = split; whole = whole; wrong = wrong })

    by : (cause : TextCause) → IsWrong (Says g t says) (g.in_range t) cause → IsFirstFault g s text number cause
    by End wrong = absurd wrong
    by Form wrong = record { before = rs; rest = rest; begins = begins; counted = counted; fault = there Form wrong }
    by Range wrong = record { before = rs; rest = rest; begins = begins; counted = counted; fault = there Range wrong }
    by Extra wrong = absurd wrong

-- no line is due, and bytes follow
pub first_fault-extra : {S R : Type 0} (g : Grammar S R) (s t : S) (rs : List R) (text rest : List ℕ) (number : ℕ) → Begins g s rs text rest → state_after g s rs ≡ t
    → number ≡ 1 + length rs → g.is_due t ≡ false → rest ≢ [] → IsFirstFault g s text number Extra
first_fault-extra g s t rs text rest number begins state counted done some =
    record { before = rs; rest = rest; begins = begins; counted = counted; fault = (ap g.is_due state ∙ done, some) }
