-- Lines that are wrong, and texts that are refused at them.
use Rattle.std.proofs.Common.{◌≡◌, ◌≢◌, ℕ, ◌+◌, ◌<◌, List, [], ◌++◌, true, refl, sym, ap, ◌∙◌}
use Rattle.std.proofs.lemmas.Bool.{lt-ltb}
use Rattle.history.specs.declared.refusals.Refusal.{Refusal}
use Rattle.history.specs.declared.refusals.Refusal.TheVariants.{Text}
use Rattle.line_table.specs.declared.lines.Kind.{Kind}
use Rattle.history.specs.declared.text_causes.TextCause.{TextCause}
use Rattle.history.specs.declared.text_causes.TextCause.TheVariants.{End, Form, Range, Extra}
use Rattle.text_io.specs.Grammars.{Says}
use Rattle.text_io.specs.Lines.{HasNo, line, spaced, words_of}
use Rattle.text_io.specs.LineReadings.{IsWrong}
use Rattle.text_io.proofs.Faults.{Begins-nothing, first_fault-end, first_fault-line}
use Rattle.schedule_text.specs.declared.fields.Field.{Field}
use Rattle.schedule_text.specs.declared.schedules.Version.{Version}
use Rattle.schedule_text.specs.Texts.{Said, version, queue, number, happens, Due, version_due, queue_due, number_due, events_left, bits_of}
use Rattle.schedule_text.specs.Texts.{said_words, is_due, Tells, MaySay, IsEventInRange, IsSaidInRange, schedule_lines}
use Rattle.schedule_text.specs.Readers.{IsFront, IsRefusedAfter}
use Rattle.schedule_text.proofs.Spelling.{words_of-said, spaced-said}

-- a line that is wrong by its words is wrong, where the line that is due says just such things
pub wrong_line : {V : Type 0} (bits : ℕ) (said : V → Said) (due : Due) (says : List ℕ) → ((r : Said) → MaySay due r → (v : V) × (r ≡ said v))
    → ((v : V) → MaySay due (said v)) → (cause : TextCause)
    → IsWrong (λ (v : V). words_of says ≡ said_words (said v)) (λ v. IsSaidInRange bits (said v)) cause
    → IsWrong (Says schedule_lines due says) (IsSaidInRange bits) cause
wrong_line bits said due says only may End wrong = absurd wrong
wrong_line bits said due says only may Form none = λ r is.
    let v = only r is.may in
    none v.0 (words_of-said r says is.spelled ∙ ap said_words v.1)
wrong_line bits said due says only may Range wrong =
    (said wrong.0, record { may = may wrong.0; spelled = spaced-said (said wrong.0) says wrong.1 }, wrong.2)
wrong_line bits said due says only may Extra wrong = absurd wrong

-- the line of an event is, where it is wrong by its words
pub wrong_event : (v : Version) (left : ℕ) (says : List ℕ) (cause : TextCause) → IsWrong (Tells v (words_of says)) IsEventInRange cause
    → IsWrong (Says schedule_lines (events_left v left) says) (IsSaidInRange 24) cause
wrong_event v left says End wrong = absurd wrong
wrong_event v left says Form none = λ r is. no_event r is.may is.spelled
  where
    no_event : (r : Said) → MaySay (events_left v left) r → says ≢ spaced (said_words r)
    no_event (version w) may same = may
    no_event (queue kind) may same = may
    no_event (number field value) may same = may
    no_event (happens event) may same = none event (may, words_of-said (happens event) says same)
wrong_event v left says Range wrong =
    (happens wrong.0, record { may = wrong.1.0; spelled = spaced-said (happens wrong.0) says wrong.1.1 }, wrong.2)
wrong_event v left says Extra wrong = absurd wrong

-- the line after so many is due, and there is none
pub refused_end : (before : ℕ) (due : Due) (text : List ℕ) (refusal : Refusal) → is_due due ≡ true → (refusal ≡ Text (before + 1) End) × HasNo 10 text
    → IsRefusedAfter before due text refusal
refused_end before due text refusal more end =
    rw end.0 (1, refl, first_fault-end schedule_lines due due [] text text 1 (Begins-nothing schedule_lines due text) refl refl more end.1)

-- the line after so many is wrong
refused_line : (before : ℕ) (due : Due) (text says rest : List ℕ) (cause : TextCause) → is_due due ≡ true → HasNo 10 says → text ≡ line says ++ rest
    → IsWrong (Says schedule_lines due says) (IsSaidInRange (bits_of due)) cause → IsRefusedAfter before due text (Text (before + 1) cause)
refused_line before due text says rest cause more whole split wrong =
    (1, refl, first_fault-line schedule_lines due due [] text text says rest 1 cause (Begins-nothing schedule_lines due text) refl refl more split whole wrong)

-- a line that is there and due, by its words
pub IsFront-read : (due : Due) (said : Said) (text says rest : List ℕ) → MaySay due said → words_of says ≡ said_words said → IsSaidInRange (bits_of due) said
    → text ≡ line says ++ rest → IsFront due said text rest
IsFront-read due said text says rest may same range split =
    record { may = may; range = range; spelled = split ∙ ap (λ l. line l ++ rest) (spaced-said said says same) }

-- each line that is wrong
pub wrong_version : (says : List ℕ) → ((v : Version) → says ≢ spaced (said_words (version v))) → IsWrong (Says schedule_lines version_due says) (IsSaidInRange 24) Form
wrong_version says other r is = none r is.may is.spelled
  where
    none : (r : Said) → MaySay version_due r → says ≢ spaced (said_words r)
    none (version v) may same = other v same
    none (queue kind) may same = absurd may
    none (number field value) may same = absurd may
    none (happens event) may same = absurd may

pub wrong_kind : (v : Version) (says : List ℕ) (cause : TextCause) → IsWrong (λ (kind : Kind). words_of says ≡ said_words (queue kind)) (λ kind. IsSaidInRange 24 (queue kind)) cause
    → IsWrong (Says schedule_lines (queue_due v) says) (IsSaidInRange 24) cause
wrong_kind v says cause wrong = wrong_line 24 queue (queue_due v) says only (λ kind. tt) cause wrong
  where
    only : (r : Said) → MaySay (queue_due v) r → (kind : Kind) × (r ≡ queue kind)
    only (version w) may = absurd may
    only (queue kind) may = (kind, refl)
    only (number field value) may = absurd may
    only (happens event) may = absurd may

pub wrong_number : (v : Version) (bits : ℕ) (field : Field) (says : List ℕ) (cause : TextCause)
    → IsWrong (λ (value : ℕ). words_of says ≡ said_words (number field value)) (λ value. IsSaidInRange bits (number field value)) cause
    → IsWrong (Says schedule_lines (number_due v bits field) says) (IsSaidInRange bits) cause
wrong_number v bits field says cause wrong = wrong_line bits (number field) (number_due v bits field) says only (λ value. refl) cause wrong
  where
    only : (r : Said) → MaySay (number_due v bits field) r → (value : ℕ) × (r ≡ number field value)
    only (version w) may = absurd may
    only (queue kind) may = absurd may
    only (number other value) may = (value, ap (λ f. number f value) (sym may))
    only (happens event) may = absurd may

-- and a text that is refused at it
pub refused_version : (text says rest : List ℕ) → HasNo 10 says → text ≡ line says ++ rest → ((v : Version) → says ≢ spaced (said_words (version v)))
    → IsRefusedAfter 0 version_due text (Text 1 Form)
refused_version text says rest whole split other =
    refused_line 0 version_due text says rest Form refl whole split (wrong_version says other)

pub refused_kind : (v : Version) (text says rest : List ℕ) (cause : TextCause) → HasNo 10 says → text ≡ line says ++ rest
    → IsWrong (λ (kind : Kind). words_of says ≡ said_words (queue kind)) (λ kind. IsSaidInRange 24 (queue kind)) cause
    → IsRefusedAfter 1 (queue_due v) text (Text 2 cause)
refused_kind v text says rest cause whole split wrong =
    refused_line 1 (queue_due v) text says rest cause refl whole split (wrong_kind v says cause wrong)

pub refused_number : (before : ℕ) (v : Version) (bits : ℕ) (field : Field) (text says rest : List ℕ) (cause : TextCause) → HasNo 10 says → text ≡ line says ++ rest
    → IsWrong (λ (value : ℕ). words_of says ≡ said_words (number field value)) (λ value. IsSaidInRange bits (number field value)) cause
    → IsRefusedAfter before (number_due v bits field) text (Text (before + 1) cause)
refused_number before v bits field text says rest cause whole split wrong =
    refused_line before (number_due v bits field) text says rest cause refl whole split (wrong_number v bits field says cause wrong)

pub refused_event : (before : ℕ) (v : Version) (left : ℕ) (text says rest : List ℕ) (cause : TextCause) → 0 < left → HasNo 10 says → text ≡ line says ++ rest
    → IsWrong (Tells v (words_of says)) IsEventInRange cause → IsRefusedAfter before (events_left v left) text (Text (before + 1) cause)
refused_event before v left text says rest cause some whole split wrong =
    refused_line before (events_left v left) text says rest cause (lt-ltb 0 left some) whole split (wrong_event v left says cause wrong)
