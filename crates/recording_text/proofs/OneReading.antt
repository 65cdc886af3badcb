-- Each text is of one recording at most.
use Rattle.std.proofs.Common.{◌≡◌, ◌≢◌, ℕ, zero, suc, ◌-◌, ◌≤◌, List, [], ◌∷◌, length, All, true, false, refl, sym, ap, ◌∙◌, arith, subst, append-nil}
use Rattle.std.proofs.lemmas.List.Elements.{All-head, All-tail}
use Rattle.history.specs.declared.text_causes.TextCause.{TextCause}
use Rattle.text_io.specs.Grammars.{AreDue, state_after, lines_of, IsText}
use Rattle.text_io.proofs.Single.{one_list}
use Rattle.text_io.proofs.Total.{not_neither}
use Rattle.recording_text.specs.Recordings.{Recorded}
use Rattle.recording_text.specs.RecordingLines.{RecordingLine, Version, Count, Operation, VersionDue, Operations, is_line_due, IsReadable}
use Rattle.recording_text.specs.RecordingLines.{IsRecordingInRange, HasFirstFault, recording_grammar, recording_lines, recording_text}
use Rattle.recording_text.proofs.Spelling.{IsSoundGrammar-recording}
use Rattle.recording_text.proofs.Steps.{said, state-said, due-some, due-none, readable-due}

-- operations that a line may say are due
due-readable : (rs : List Recorded) (left : ℕ) → length rs ≤ left → All IsReadable rs → AreDue recording_grammar (Operations left) (said rs)
due-readable [] left enough all = tt
due-readable (r ∷ rs) left enough all =
    let readable = All-head IsReadable r rs all in
    (due-some left (omega arith), readable.0, readable.1, due-readable rs (left - 1) (omega arith) (All-tail IsReadable r rs all))

-- the text of a recording in range is in the grammar
pub IsText-recording : (rs : List Recorded) → IsRecordingInRange rs → IsText recording_grammar VersionDue (recording_lines rs) (recording_text rs)
unfolding recording_text
IsText-recording rs range = record {
  lines = record {
    due = (refl, tt, tt, (refl, tt, range.count, due-readable rs (length rs) (omega arith) range.each));
    spelled = sym (append-nil (lines_of recording_grammar (recording_lines rs)));
  };
  done = ap is_line_due (state-said rs (length rs)) ∙ due-none (length rs - length rs) (omega arith);
}

-- one recording a text
pub one_recording : (rs qs : List Recorded) → IsRecordingInRange rs → IsRecordingInRange qs → recording_text rs ≡ recording_text qs → rs ≡ qs
one_recording rs qs range range' e =
    let lines : recording_lines rs ≡ recording_lines qs =
    one_list recording_grammar IsSoundGrammar-recording VersionDue (recording_lines rs) (recording_lines qs) (recording_text qs)
    (subst (IsText recording_grammar VersionDue (recording_lines rs)) e (IsText-recording rs range)) (IsText-recording qs range') in
    let saids : said rs ≡ said qs = cc in
    said_injective rs qs saids
  where
    said_injective : (rs qs : List Recorded) → said rs ≡ said qs → rs ≡ qs
    said_injective [] [] e = refl
    said_injective [] (q ∷ qs) e = absurd cc
    said_injective (r ∷ rs) [] e = absurd cc
    said_injective (r ∷ rs) (q ∷ qs) e =
        let head : r ≡ q = cc in
        let tail : said rs ≡ said qs = cc in
        λ i. head i ∷ said_injective rs qs tail i

-- lines that are due after the second one are operations, as many as are due
record AreOperations (left : ℕ) (lines : List RecordingLine) : Type 0 where
  recorded : List Recorded
  are : lines ≡ said recorded
  counted : length recorded ≡ left

operations-due : (lines : List RecordingLine) (left : ℕ) → AreDue recording_grammar (Operations left) lines → is_line_due (state_after recording_grammar (Operations left) lines) ≡ false
    → AreOperations left lines
operations-due [] zero due done = record { recorded = []; are = refl; counted = refl }
operations-due [] (suc left) due done = absurd cc
operations-due (Version ∷ lines) left due done = absurd due.1
operations-due (Count count ∷ lines) left due done = absurd due.1
operations-due (Operation r ∷ lines) zero due done = absurd (let e : false ≡ true = due.0 in cc)
operations-due (Operation r ∷ lines) (suc left) due done =
    let less : suc left - 1 ≡ left = omega arith in
    let later = operations-due lines left (subst (λ n. AreDue recording_grammar (Operations n) lines) less due.3)
    (subst (λ n. is_line_due (state_after recording_grammar (Operations n) lines) ≡ false) less done) in
    record { recorded = r ∷ later.recorded; are = ap (λ (lines : List RecordingLine). Operation r ∷ lines) later.are; counted = ap suc later.counted }

-- a text in the grammar is the text of a recording in range
recording-of : (lines : List RecordingLine) (text : List ℕ) → IsText recording_grammar VersionDue lines text → (rs : List Recorded) × IsRecordingInRange rs × (text ≡ recording_text rs)
unfolding recording_text
recording-of [] text is = absurd (let e : true ≡ false = is.done in cc)
recording-of (Count count ∷ lines) text is = absurd is.lines.due.1
recording-of (Operation r ∷ lines) text is = absurd is.lines.due.1
recording-of (Version ∷ []) text is = absurd (let e : true ≡ false = is.done in cc)
recording-of (Version ∷ Version ∷ lines) text is = absurd is.lines.due.3.1
recording-of (Version ∷ Operation r ∷ lines) text is = absurd is.lines.due.3.1
recording-of (Version ∷ Count count ∷ lines) text is =
    let later = operations-due lines count is.lines.due.3.3 is.done in
    let same : Version ∷ Count count ∷ lines ≡ recording_lines later.recorded = λ i. Version ∷ Count (sym later.counted i) ∷ later.are i in
    let due : AreDue recording_grammar VersionDue (recording_lines later.recorded) = subst (AreDue recording_grammar VersionDue) same is.lines.due in (
      later.recorded,
      record { count = due.3.2; each = readable-due later.recorded (length later.recorded) due.3.3 },
      is.lines.spelled ∙ append-nil (lines_of recording_grammar (Version ∷ Count count ∷ lines)) ∙ ap (lines_of recording_grammar) same,
    )

-- no text is neither a recording's nor faulty
pub not_neither_of_recording : (text : List ℕ) → ((rs : List Recorded) → IsRecordingInRange rs → text ≢ recording_text rs) → ((number : ℕ) (cause : TextCause) → ¬ HasFirstFault text number cause) → ⊥
not_neither_of_recording text none = not_neither recording_grammar VersionDue text (λ lines is. let found = recording-of lines text is in none found.0 found.1 found.2)
