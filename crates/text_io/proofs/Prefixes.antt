-- A fault of a prefix of a text, other than that it ends, is the first fault of the text.
use Rattle.std.proofs.Common.{◌≡◌, ◌≢◌, ℕ, List, [], ◌∷◌, ◌++◌, refl, ap, ◌∙◌, append_assoc, subst}
use Rattle.history.specs.declared.text_causes.TextCause.{TextCause}
use Rattle.history.specs.declared.text_causes.TextCause.TheVariants.{End, Form, Range, Extra}
use Rattle.text_io.specs.Lines.{line}
use Rattle.text_io.specs.Grammars.{Grammar, state_after, lines_of, IsWrongLine, IsFault, IsFirstFault}
use Rattle.history.specs.declared.refusals.Refusal.{Refusal}
use Rattle.history.specs.declared.refusals.Refusal.TheVariants.{Text}
use Rattle.text_io.specs.Prefixes.{IsRefusedBy, IsLastingFault}

-- a prefix of an empty text is empty
append-is_nil : (rest later : List ℕ) → rest ++ later ≡ [] → rest ≡ []
append-is_nil [] later e = refl
append-is_nil (x ∷ rest) later e = absurd cc

module _ {S R : Type 0} (g : Grammar S R) where
  -- a wrong line stays one whatever follows
  wrong_line-append : (s : S) (rest later : List ℕ) (cause : TextCause) → IsWrongLine g s rest cause → IsWrongLine g s (rest ++ later) cause
  wrong_line-append s rest later cause wrong =
      record {
        due = wrong.due;
        says = wrong.says;
        later = wrong.later ++ later;
        split = ap (λ (bytes : List ℕ). bytes ++ later) wrong.split ∙ append_assoc (line wrong.says) wrong.later later;
        whole = wrong.whole;
        wrong = wrong.wrong;
      }

  fault-append : (s : S) (rest later : List ℕ) (cause : TextCause) → cause ≢ End → IsFault g s rest cause → IsFault g s (rest ++ later) cause
  fault-append s rest later End lasting fault = absurd (lasting refl)
  fault-append s rest later Form lasting fault = wrong_line-append s rest later Form fault
  fault-append s rest later Range lasting fault = wrong_line-append s rest later Range fault
  fault-append s rest later Extra lasting fault = (fault.0, λ e. fault.1 (append-is_nil rest later e))

  -- a first fault stays one
  pub first_fault-append : (s : S) (text : List ℕ) (number : ℕ) (cause : TextCause) → cause ≢ End → IsFirstFault g s text number cause
      → IsLastingFault g s text number cause
  first_fault-append s text number cause lasting fault later =
      record {
        before = fault.before;
        rest = fault.rest ++ later;
        begins = record {
          due = fault.begins.due;
          spelled = ap (λ (bytes : List ℕ). bytes ++ later) fault.begins.spelled ∙ append_assoc (lines_of g fault.before) fault.rest later;
        };
        counted = fault.counted;
        fault = fault-append (state_after g s fault.before) fault.rest later cause lasting fault.fault;
      }

  -- so a prefix that isn't refused by its end has a lasting fault
  pub lasting-refusal : (s : S) (text : List ℕ) (refusal : Refusal) (number : ℕ) (cause : TextCause) → IsRefusedBy g s text refusal → refusal ≡ Text number cause → cause ≢ End
      → IsLastingFault g s text number cause
  lasting-refusal s text refusal number cause refused is lasting =
      first_fault-append s text number cause lasting (subst (λ (refusal : Refusal). IsRefusedBy g s text refusal) is refused)
