-- The lines of recordings and their words.
use Rattle.std.proofs.Common.{◌≡◌, ◌≢◌, ℕ, ◌≤◌, List, [], ◌∷◌, ◌++◌, All, Option, Some, None, false, refl, sym, ap, ◌∙◌, codes, ⊎_elim}
use Rattle.std.proofs.lemmas.Bool.{cases_lt, agree_below_at}
use Rattle.std.proofs.lemmas.List.Elements.{All-nil, All-append, All-weaker}
use Rattle.history.specs.declared.text_causes.TextCause.{TextCause}
use Rattle.history.specs.declared.text_causes.TextCause.TheVariants.{End, Form, Range, Extra}
use Rattle.text_io.specs.Lines.{spaced, words_of}
use Rattle.text_io.specs.Numerals.{numeral}
use Rattle.text_io.specs.LineReadings.{IsWrong}
use Rattle.text_io.specs.Grammars.{Says, IsSoundGrammar}
use Rattle.text_io.proofs.Numerals.{numeral_injective}
use Rattle.text_io.proofs.Splits.{spaced-words_of}
use Rattle.history_text.specs.HistoryLines.{step_word}
use Rattle.history_text.proofs.NoSpaces.{IsInk, ink-tested, ink-numeral, more, one, ink-step, ink-labelled, words_of-ink, HasNo-spaced}
use Rattle.text_io.proofs.FirstWords.{apart}
use Rattle.history_text.proofs.OneReading.{one-step}
use Rattle.recording_text.specs.Recordings.{Call, Push, Pop, Shut, Told, Done, Value, Empty, Refused, Closed, Recorded}
use Rattle.recording_text.specs.RecordingLines.{is_text_byte, IsTextByte, IsText, IsTextCall, IsTextTold, IsSayable, IsOperationInRange}
use Rattle.recording_text.specs.RecordingLines.{RecordingLine, Version, Count, Operation, RecordingDue, VersionDue, CountDue, Operations, MaySay}
use Rattle.recording_text.specs.RecordingLines.{call_words, told_words, span_words, operation_words, line_words, recording_grammar}
use Rattle.recording_text.specs.RecordingReading.{AreOfOperation, SaysOperation, SaysCount, IsCount}

-- the bytes of a text are such ones
ink-byte : (b : ℕ) → IsTextByte b → 45 ≤ b
ink-byte b is = ⊎_elim (λ low. let not : is_text_byte b ≡ false = agree_below_at is_text_byte (λ b. false) 45 b refl low in absurd cc) (λ high. high) (cases_lt b 45)

ink-text : (word : List ℕ) → IsText word → IsInk word
ink-text word is = All-weaker IsTextByte (λ b. 45 ≤ b) ink-byte word is.1

ink-call : (call : Call) → IsTextCall call → All IsInk (call_words call)
ink-call (Push text) is = more (codes "enq") (text ∷ []) (ink-tested (codes "enq") refl) (one text (ink-text text is))
ink-call Pop is = one (codes "deq") (ink-tested (codes "deq") refl)
ink-call Shut is = one (codes "shut") (ink-tested (codes "shut") refl)

ink-told : (told : Option Told) → IsTextTold told → All IsInk (told_words told)
ink-told None is = one (codes "-") (ink-tested (codes "-") refl)
ink-told (Some Done) is = one (codes "done") (ink-tested (codes "done") refl)
ink-told (Some (Value text)) is = more (codes "value") (text ∷ []) (ink-tested (codes "value") refl) (one text (ink-text text is))
ink-told (Some Empty) is = one (codes "empty") (ink-tested (codes "empty") refl)
ink-told (Some Refused) is = one (codes "refused") (ink-tested (codes "refused") refl)
ink-told (Some Closed) is = one (codes "closed") (ink-tested (codes "closed") refl)

ink-span : (r : Recorded) → IsTextTold r.told → All IsInk (span_words r)
ink-span r is =
    let told : List (List ℕ) = codes "reply" ∷ told_words r.told in
    let last : List (List ℕ) = codes "to" ∷ step_word r.last ∷ told in
    ink-labelled (codes "from") (numeral r.first) last (ink-tested (codes "from") refl) (ink-numeral r.first)
    (ink-labelled (codes "to") (step_word r.last) told (ink-tested (codes "to") refl) (ink-step r.last)
    (more (codes "reply") (told_words r.told) (ink-tested (codes "reply") refl) (ink-told r.told is)))

ink-operation : (r : Recorded) → IsSayable r → All IsInk (operation_words r)
ink-operation r is = more r.name (call_words r.call ++ span_words r) (ink-text r.name is.name) (All-append IsInk (call_words r.call) (span_words r) (ink-call r.call is.call) (ink-span r is.told))

ink-count : (count : ℕ) → All IsInk (codes "operations" ∷ numeral count ∷ [])
ink-count count = ink-labelled (codes "operations") (numeral count) [] (ink-tested (codes "operations") refl) (ink-numeral count) (All-nil IsInk)

ink-version : All IsInk (line_words Version)
ink-version = ink-labelled (codes "msq") (codes "record") (codes "1" ∷ []) (ink-tested (codes "msq") refl) (ink-tested (codes "record") refl) (one (codes "1") (ink-tested (codes "1") refl))

-- a line of the words of an operation says it, and the other way round
pub SaysOperation-from_words : (says : List ℕ) (r : Recorded) → AreOfOperation (words_of says) r → SaysOperation says r
SaysOperation-from_words says r there = (there.0, sym (spaced-words_of says) ∙ ap spaced there.1)

pub AreOfOperation-said : (says : List ℕ) (r : Recorded) → SaysOperation says r → AreOfOperation (words_of says) r
AreOfOperation-said says r said = (said.0, ap words_of said.1 ∙ words_of-ink _ _ (ink-operation r said.0))

-- a line that says no operation, or one that is out of range
pub wrong-operation : (left : ℕ) (says : List ℕ) (cause : TextCause) → IsWrong (SaysOperation says) IsOperationInRange cause
    → IsWrong (Says recording_grammar (Operations left) says) (recording_grammar.in_range (Operations left)) cause
wrong-operation left says End wrong = absurd wrong
wrong-operation left says Form wrong = by
  where
    by : (r : RecordingLine) → ¬ Says recording_grammar (Operations left) says r
    by Version s = absurd s.may
    by (Count count) s = absurd s.may
    by (Operation o) s = wrong o (s.may, s.spelled)
wrong-operation left says Range wrong = (Operation wrong.0, record { may = wrong.1.0; spelled = wrong.1.1 }, wrong.2)
wrong-operation left says Extra wrong = absurd wrong

-- a second line that says no number of operations, or one that is out of range
pub wrong-count : (says : List ℕ) (cause : TextCause) → IsWrong (SaysCount says) IsCount cause → IsWrong (Says recording_grammar CountDue says) (recording_grammar.in_range CountDue) cause
wrong-count says End wrong = absurd wrong
wrong-count says Form wrong = by
  where
    by : (r : RecordingLine) → ¬ Says recording_grammar CountDue says r
    by Version s = absurd s.may
    by (Count count) s = wrong count s.spelled
    by (Operation o) s = absurd s.may
wrong-count says Range wrong = (Count wrong.0, record { may = tt; spelled = wrong.1 }, wrong.2)
wrong-count says Extra wrong = absurd wrong

-- a first line that isn't that of a recording
pub wrong-version : (says : List ℕ) → says ≢ codes "msq record 1" → IsWrong (Says recording_grammar VersionDue says) (recording_grammar.in_range VersionDue) Form
wrong-version says other = by
  where
    by : (r : RecordingLine) → ¬ Says recording_grammar VersionDue says r
    by Version s = other s.spelled
    by (Count count) s = absurd s.may
    by (Operation o) s = absurd s.may

-- the words of a call, before others, tell it and them
one-call : (a b : Call) (xs ys : List (List ℕ)) → call_words a ++ xs ≡ call_words b ++ ys → (a ≡ b) × (xs ≡ ys)
one-call (Push s) (Push t) xs ys e = let text : s ≡ t = cc in (ap (λ (t : List ℕ). Push t) text, cc)
one-call (Push s) Pop xs ys e = absurd (apart _ _ refl e)
one-call (Push s) Shut xs ys e = absurd (apart _ _ refl e)
one-call Pop (Push t) xs ys e = absurd (apart _ _ refl e)
one-call Pop Pop xs ys e = (refl, cc)
one-call Pop Shut xs ys e = absurd (apart _ _ refl e)
one-call Shut (Push t) xs ys e = absurd (apart _ _ refl e)
one-call Shut Pop xs ys e = absurd (apart _ _ refl e)
one-call Shut Shut xs ys e = (refl, cc)

-- the words of what was told tell it
one-told : (a b : Option Told) → told_words a ≡ told_words b → a ≡ b
one-told None None e = refl
one-told None (Some Done) e = absurd (apart _ _ refl e)
one-told None (Some (Value t)) e = absurd (apart _ _ refl e)
one-told None (Some Empty) e = absurd (apart _ _ refl e)
one-told None (Some Refused) e = absurd (apart _ _ refl e)
one-told None (Some Closed) e = absurd (apart _ _ refl e)
one-told (Some Done) None e = absurd (apart _ _ refl e)
one-told (Some Done) (Some Done) e = refl
one-told (Some Done) (Some (Value t)) e = absurd (apart _ _ refl e)
one-told (Some Done) (Some Empty) e = absurd (apart _ _ refl e)
one-told (Some Done) (Some Refused) e = absurd (apart _ _ refl e)
one-told (Some Done) (Some Closed) e = absurd (apart _ _ refl e)
one-told (Some (Value s)) None e = absurd (apart _ _ refl e)
one-told (Some (Value s)) (Some Done) e = absurd (apart _ _ refl e)
one-told (Some (Value s)) (Some (Value t)) e = let text : s ≡ t = cc in ap (λ (t : List ℕ). Some (Value t)) text
one-told (Some (Value s)) (Some Empty) e = absurd (apart _ _ refl e)
one-told (Some (Value s)) (Some Refused) e = absurd (apart _ _ refl e)
one-told (Some (Value s)) (Some Closed) e = absurd (apart _ _ refl e)
one-told (Some Empty) None e = absurd (apart _ _ refl e)
one-told (Some Empty) (Some Done) e = absurd (apart _ _ refl e)
one-told (Some Empty) (Some (Value t)) e = absurd (apart _ _ refl e)
one-told (Some Empty) (Some Empty) e = refl
one-told (Some Empty) (Some Refused) e = absurd (apart _ _ refl e)
one-told (Some Empty) (Some Closed) e = absurd (apart _ _ refl e)
one-told (Some Refused) None e = absurd (apart _ _ refl e)
one-told (Some Refused) (Some Done) e = absurd (apart _ _ refl e)
one-told (Some Refused) (Some (Value t)) e = absurd (apart _ _ refl e)
one-told (Some Refused) (Some Empty) e = absurd (apart _ _ refl e)
one-told (Some Refused) (Some Refused) e = refl
one-told (Some Refused) (Some Closed) e = absurd (apart _ _ refl e)
one-told (Some Closed) None e = absurd (apart _ _ refl e)
one-told (Some Closed) (Some Done) e = absurd (apart _ _ refl e)
one-told (Some Closed) (Some (Value t)) e = absurd (apart _ _ refl e)
one-told (Some Closed) (Some Empty) e = absurd (apart _ _ refl e)
one-told (Some Closed) (Some Refused) e = absurd (apart _ _ refl e)
one-told (Some Closed) (Some Closed) e = refl

-- words behind those of a call that have no step are those of no operation
pub no_last : (words named called from timed : List (List ℕ)) (name : List ℕ) (call : Call) (n : ℕ) → words ≡ name ∷ named → named ≡ call_words call ++ called → called ≡ codes "from" ∷ from
    → from ≡ numeral n ∷ timed → ((step : Option ℕ) (rest : List (List ℕ)) → timed ≢ codes "to" ∷ step_word step ∷ rest) → (r : Recorded) → ¬ AreOfOperation words r
no_last words named called from timed name call n first second third fourth none r there =
    let behind : named ≡ call_words r.call ++ span_words r = cc in
    let calls = one-call call r.call called (span_words r) (sym second ∙ behind) in
    let span : called ≡ span_words r = calls.1 in
    none r.last (codes "reply" ∷ told_words r.told) cc

-- the words of an operation tell it
one-operation : (a b : Recorded) → operation_words a ≡ operation_words b → a ≡ b
one-operation a b e =
    let name : a.name ≡ b.name = cc in
    let rest : call_words a.call ++ span_words a ≡ call_words b.call ++ span_words b = cc in
    let call = one-call a.call b.call (span_words a) (span_words b) rest in
    let span : span_words a ≡ span_words b = call.1 in
    let first : numeral a.first ≡ numeral b.first = cc in
    let last : step_word a.last ≡ step_word b.last = cc in
    let told : told_words a.told ≡ told_words b.told = cc in
    λ i. record {
      name = name i;
      call = call.0 i;
      first = numeral_injective a.first b.first first i;
      last = one-step a.last b.last last i;
      told = one-told a.told b.told told i;
    }

-- the words of a line are in its letters
ink-line : (s : RecordingDue) (r : RecordingLine) → MaySay s r → All IsInk (line_words r)
ink-line VersionDue Version may = ink-version
ink-line VersionDue (Count count) may = absurd may
ink-line VersionDue (Operation o) may = absurd may
ink-line CountDue Version may = absurd may
ink-line CountDue (Count count) may = ink-count count
ink-line CountDue (Operation o) may = absurd may
ink-line (Operations left) Version may = absurd may
ink-line (Operations left) (Count count) may = absurd may
ink-line (Operations left) (Operation o) may = ink-operation o may

-- the words of a line are told by its bytes
line_words-said : (s : RecordingDue) (r : RecordingLine) → MaySay s r → words_of (spaced (line_words r)) ≡ line_words r
line_words-said s Version may = words_of-ink _ _ (ink-line s Version may)
line_words-said s (Count count) may = words_of-ink _ _ (ink-line s (Count count) may)
line_words-said s (Operation o) may = words_of-ink _ _ (ink-line s (Operation o) may)

one-line : (s : RecordingDue) (r q : RecordingLine) → MaySay s r → MaySay s q → line_words r ≡ line_words q → r ≡ q
one-line VersionDue Version Version may may' e = refl
one-line CountDue (Count m) (Count n) may may' e = let same : numeral m ≡ numeral n = cc in ap (λ (n : ℕ). Count n) (numeral_injective m n same)
one-line (Operations left) (Operation a) (Operation b) may may' e = ap (λ (r : Recorded). Operation r) (one-operation a b e)
one-line VersionDue Version (Count n) may may' e = absurd may'
one-line VersionDue Version (Operation b) may may' e = absurd may'
one-line VersionDue (Count m) q may may' e = absurd may
one-line VersionDue (Operation a) q may may' e = absurd may
one-line CountDue Version q may may' e = absurd may
one-line CountDue (Count m) Version may may' e = absurd may'
one-line CountDue (Count m) (Operation b) may may' e = absurd may'
one-line CountDue (Operation a) q may may' e = absurd may
one-line (Operations left) Version q may may' e = absurd may
one-line (Operations left) (Count m) q may may' e = absurd may
one-line (Operations left) (Operation a) Version may may' e = absurd may'
one-line (Operations left) (Operation a) (Count n) may may' e = absurd may'

-- the words of a line of a recording tell what it says, and have no line feed
pub IsSoundGrammar-recording : IsSoundGrammar recording_grammar
IsSoundGrammar-recording = record {
  no_feed = λ s r may. HasNo-spaced (line_words r) (ink-line s r may);
  one = λ s r q may may' e. one-line s r q may may' (sym (line_words-said s r may) ∙ ap words_of e ∙ line_words-said s q may');
}
