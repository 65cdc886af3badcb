-- A recording's text that is read a line at a time.
use Rattle.std.proofs.Common.{◌≡◌, ◌≢◌, ℕ, zero, suc, ◌+◌, ◌-◌, ◌<◌, ◌≤◌, List, [], ◌∷◌, ◌++◌, length, map, All, true, false, refl, sym, ap, ◌∙◌}
use Rattle.std.proofs.Common.{arith, subst, append_assoc, append-nil, codes, length-append}
use Rattle.std.proofs.lemmas.List.{map-append, length-map}
use Rattle.std.proofs.lemmas.List.Elements.{All-nil, All-cons}
use Rattle.history.specs.declared.text_causes.TextCause.{TextCause}
use Rattle.history.specs.declared.text_causes.TextCause.TheVariants.{End, Form, Extra}
use Rattle.text_io.specs.Lines.{HasNo, line, spaced}
use Rattle.text_io.specs.Numerals.{numeral}
use Rattle.text_io.specs.LineReadings.{IsWrong}
use Rattle.text_io.specs.Grammars.{AreDue, state_after, lines_of, Begins, IsText}
use Rattle.text_io.proofs.Faults.{Begins-nothing, Begins-more, IsText-whole, first_fault-end, first_fault-line, first_fault-extra}
use Rattle.history.specs.declared.refusals.Refusal.{Refusal}
use Rattle.history.specs.declared.refusals.Refusal.TheVariants.{Memory, Text}
use Rattle.history.specs.declared.operations.Stamped.{Stamped}
use Rattle.recording_text.specs.Recordings.{Recorded, texts_in, texts_of}
use Rattle.recording_text.specs.Numbers.{with_texts, stamped_by}
use Rattle.recording_text.specs.RecordingLines.{RecordingLine, Version, Count, Operation, VersionDue, CountDue, Operations, is_line_due, version_line}
use Rattle.recording_text.specs.RecordingLines.{IsReadable, IsFirstFaultOfRecording, HasFirstFault, recording_grammar, recording_text}
use Rattle.recording_text.specs.RecordingReading.{AddsOperation, IsWrongOperation, IsAfterCount, SaysCount, IsCount, StandsFor, StandsBehind}
use Rattle.recording_text.proofs.EachOf.{together}
use Rattle.recording_text.proofs.Known.{AreKnown, AllAreKnown, every-stays, all-learnt, history-stays, length-with_texts, two-texts, with_texts-append, texts_of-push}
use Rattle.recording_text.proofs.Spelling.{wrong-operation, wrong-count, wrong-version}

-- the operations as lines
abbrev pub said : List Recorded → List RecordingLine
said rs = map (λ r. Operation r) rs

-- what is due after some operations
pub state-said : (rs : List Recorded) (left : ℕ) → state_after recording_grammar (Operations left) (said rs) ≡ Operations (left - length rs)
state-said [] left = ap (λ (n : ℕ). Operations n) {x = left} {y = left - 0} (omega arith)
state-said (r ∷ rs) left = state-said rs (left - 1) ∙ ap (λ (n : ℕ). Operations n) {x = left - 1 - length rs} {y = left - suc (length rs)} (omega arith)

-- a line is due while operations are left
pub due-some : (left : ℕ) → 0 < left → is_line_due (Operations left) ≡ true
due-some zero some = absurd (omega arith)
due-some (suc left) some = refl

pub due-none : (left : ℕ) → left ≡ 0 → is_line_due (Operations left) ≡ false
due-none zero none = refl
due-none (suc left) none = absurd (omega arith)

-- the operations that are due are readable
pub readable-due : (rs : List Recorded) (left : ℕ) → AreDue recording_grammar (Operations left) (said rs) → All IsReadable rs
readable-due [] left due = All-nil IsReadable
readable-due (r ∷ rs) left due = All-cons IsReadable r rs (due.1, due.2) (readable-due rs (left - 1) due.3)

-- a text begins with its first two lines and the lines of these operations
abbrev pub BeginsRecording : ℕ → List Recorded → List ℕ → List ℕ → Type 0
BeginsRecording count rs text rest = Begins recording_grammar VersionDue (Version ∷ Count count ∷ said rs) text rest

-- Operations were learnt with the numbers of their texts among those known from the start and their own.
pub record HasLearnt (start : List (List ℕ)) (rs : List Recorded) (known : List (List ℕ)) (ops : List Stamped) : Type 0 where
  pub learnt : known ≡ with_texts start (texts_of rs)
  pub each : AllAreKnown known rs
  pub numbered : ops ≡ map (stamped_by known) rs

pub HasLearnt-none : (start : List (List ℕ)) → HasLearnt start [] start []
HasLearnt-none start = record { learnt = refl; each = tt; numbered = refl }

-- So many lines of a text were read, and this follows: the texts that are known, some of them from the start, and the operations
-- with their numbers.
pub record HasRead (start : List (List ℕ)) (count : ℕ) (text rest : List ℕ) (place : ℕ) (known : List (List ℕ)) (ops : List Stamped) : Type 0 where
  pub recorded : List Recorded
  pub begins : BeginsRecording count recorded text rest
  pub in_range : count ≤ 1000000
  pub counted : length recorded ≡ place
  pub numbers : HasLearnt start recorded known ops
  pub few : length known ≤ length start + place + place

-- the first two lines are read
begins-count : (text : List ℕ) (count : ℕ) (rest : List ℕ) → IsAfterCount text count rest → BeginsRecording count [] text rest
begins-count text count rest after =
    let second : List ℕ = line (spaced (codes "operations" ∷ numeral count ∷ [])) in
    record {
      due = (refl, tt, tt, (refl, tt, after.0, tt));
      spelled =
          after.1 ∙ ap (λ (l : List ℕ). line version_line ++ (l ++ rest)) (sym (append-nil second))
          ∙ sym (append_assoc (line version_line) (second ++ []) rest);
    }

pub HasRead-none : (start : List (List ℕ)) (text : List ℕ) (count : ℕ) (rest : List ℕ) → IsAfterCount text count rest → HasRead start count text rest 0 start []
HasRead-none start text count rest after = record {
  recorded = [];
  begins = begins-count text count rest after;
  in_range = after.0;
  counted = refl;
  numbers = HasLearnt-none start;
  few = omega arith;
}

-- one more operation is read
begins-next : (count : ℕ) (rs : List Recorded) (r : Recorded) (text rest says later : List ℕ) (known new_known : List (List ℕ)) (ops new : List Stamped) → BeginsRecording count rs text rest
    → length rs < count → rest ≡ line says ++ later → (adds : AddsOperation known new_known ops new says) → BeginsRecording count (rs ++ adds.operation ∷ []) text later
begins-next count rs r text rest says later known new_known ops new begins more split adds =
    let o : Recorded = adds.operation in
    let longer : Begins recording_grammar VersionDue ((Version ∷ Count count ∷ said rs) ++ Operation o ∷ []) text later =
    Begins-more recording_grammar VersionDue (Operations (count - length rs)) (Version ∷ Count count ∷ said rs) (Operation o) text rest later begins
    (state-said rs count) (due-some (count - length rs) (omega arith)) adds.said.0 adds.in_range
    (split ∙ ap (λ (says : List ℕ). line says ++ later) adds.said.1) in
    let lines : said (rs ++ o ∷ []) ≡ said rs ++ Operation o ∷ [] = map-append (λ r. Operation r) rs (o ∷ []) in
    subst (λ (lines : List RecordingLine). Begins recording_grammar VersionDue (Version ∷ Count count ∷ lines) text later) (sym lines) longer

-- one more operation is learnt
pub HasLearnt-more : (start : List (List ℕ)) (rs : List Recorded) (o : Recorded) (known new_known : List (List ℕ)) (ops : List Stamped) → HasLearnt start rs known ops
    → new_known ≡ with_texts known (texts_in o) → HasLearnt start (rs ++ o ∷ []) new_known (ops ++ stamped_by new_known o ∷ [])
HasLearnt-more start rs o known new_known ops read learnt =
    let texts : List (List ℕ) = texts_in o in
    let old : ops ≡ map (stamped_by new_known) rs =
    read.numbered ∙ sym (history-stays known rs texts read.each) ∙ ap (λ (known : List (List ℕ)). map (stamped_by known) rs) (sym learnt) in
    record {
      learnt = learnt ∙ ap (λ (known : List (List ℕ)). with_texts known texts) read.learnt ∙ sym (with_texts-append start (texts_of rs) texts)
          ∙ ap (with_texts start) (sym (texts_of-push rs o));
      each =
          subst (λ (known : List (List ℕ)). AllAreKnown known (rs ++ o ∷ [])) (sym learnt)
          (together (λ r. AreKnown (with_texts known texts) (texts_in r)) rs (o ∷ []) (every-stays known rs texts read.each) (all-learnt known texts, tt));
      numbered = ap (λ (ops : List Stamped). ops ++ stamped_by new_known o ∷ []) old ∙ sym (map-append (stamped_by new_known) rs (o ∷ []));
    }

pub HasRead-more : (start : List (List ℕ)) (count : ℕ) (text rest says later : List ℕ) (place : ℕ) (known new_known : List (List ℕ))
    (ops new : List Stamped) → HasRead start count text rest place known ops
    → place < count → rest ≡ line says ++ later → AddsOperation known new_known ops new says → HasRead start count text later (place + 1) new_known new
HasRead-more start count text rest says later place known new_known ops new read more split adds =
    let rs = read.recorded in
    let o : Recorded = adds.operation in
    let texts : List (List ℕ) = texts_in o in
    let learnt : new_known ≡ with_texts known texts = adds.learnt in
    record {
      recorded = rs ++ o ∷ [];
      begins = begins-next count rs o text rest says later known new_known ops new read.begins (omega (arith, read.counted, more)) split adds;
      in_range = read.in_range;
      counted = length-append rs (o ∷ []) ∙ ap (λ (n : ℕ). n + 1) read.counted;
      numbers = subst (HasLearnt start (rs ++ o ∷ []) new_known) (sym adds.added) (HasLearnt-more start rs o known new_known ops read.numbers learnt);
      few =
          let long : length new_known ≡ length (with_texts known texts) = ap (λ (known : List (List ℕ)). length known) learnt in
          omega (arith, long, length-with_texts known texts, two-texts o, read.few);
    }

-- the texts that are known leave room for those of one more operation
pub HasRead-room : (start : List (List ℕ)) (count : ℕ) (text rest : List ℕ) (place : ℕ) (known : List (List ℕ)) (ops : List Stamped) → HasRead start count text rest place known ops
    → length start ≤ 1000000 → place < count → length known ≤ 3000000
HasRead-room start count text rest place known ops read few more = omega (arith, read.few, read.in_range, few, more)

-- an operation is due, and there is no further line feed
pub fault-end : (start : List (List ℕ)) (count : ℕ) (text rest : List ℕ) (place : ℕ) (known : List (List ℕ)) (ops : List Stamped) → HasRead start count text rest place known ops → place < count
    → HasNo 10 rest → HasFirstFault text (3 + place) End
fault-end start count text rest place known ops read more none =
    let rs = read.recorded in
    first_fault-end recording_grammar VersionDue (Operations (count - length rs)) (Version ∷ Count count ∷ said rs) text rest (3 + place) read.begins (state-said rs count)
    (omega (arith, read.counted, length-map rs (λ r. Operation r))) (due-some (count - length rs) (omega (arith, read.counted, more))) none

-- an operation is due, and its line is wrong, or there was no room
pub fault-operation : (start : List (List ℕ)) (count : ℕ) (text rest says later : List ℕ) (place : ℕ) (known : List (List ℕ)) (ops : List Stamped)
    (refusal : Refusal) → HasRead start count text rest place known ops
    → place < count → rest ≡ line says ++ later → HasNo 10 says → IsWrongOperation (3 + place) says refusal → IsFirstFaultOfRecording text refusal
fault-operation start count text rest says later place known ops (Text at cause) read more split whole wrong =
    let rs = read.recorded in
    first_fault-line recording_grammar VersionDue (Operations (count - length rs)) (Version ∷ Count count ∷ said rs) text rest says later at cause read.begins (state-said rs count)
    (omega (arith, wrong.0, read.counted, length-map rs (λ r. Operation r))) (due-some (count - length rs) (omega (arith, read.counted, more))) split whole
    (wrong-operation (count - length rs) says cause wrong.1)
fault-operation start count text rest says later place known ops Memory read more split whole wrong = tt
fault-operation start count text rest says later place known ops _ read more split whole wrong = absurd wrong

-- no operation is due, and bytes follow
pub fault-extra : (start : List (List ℕ)) (count : ℕ) (text rest : List ℕ) (known : List (List ℕ)) (ops : List Stamped) → HasRead start count text rest count known ops → rest ≢ []
    → HasFirstFault text (3 + count) Extra
fault-extra start count text rest known ops read some =
    let rs = read.recorded in
    first_fault-extra recording_grammar VersionDue (Operations (count - length rs)) (Version ∷ Count count ∷ said rs) text rest (3 + count) read.begins (state-said rs count)
    (omega (arith, read.counted, length-map rs (λ r. Operation r))) (due-none (count - length rs) (omega (arith, read.counted))) some

-- no operation is due, and nothing follows
pub whole-recording : (start : List (List ℕ)) (count : ℕ) (text rest : List ℕ) (known : List (List ℕ)) (ops : List Stamped) → HasRead start count text rest count known ops → rest ≡ []
    → StandsBehind start known text ops
unfolding recording_text
whole-recording start count text rest known ops read empty =
    let rs = read.recorded in
    let is : IsText recording_grammar VersionDue (Version ∷ Count count ∷ said rs) text =
    IsText-whole recording_grammar VersionDue (Operations (count - length rs)) (Version ∷ Count count ∷ said rs) text rest read.begins (state-said rs count)
    (due-none (count - length rs) (omega (arith, read.counted))) empty in
    record {
      recording = rs;
      in_range = record { count = omega (arith, read.counted, read.in_range); each = readable-due rs count is.lines.due.3.3 };
      spelled =
          is.lines.spelled ∙ append-nil (lines_of recording_grammar (Version ∷ Count count ∷ said rs))
          ∙ ap (λ (count : ℕ). lines_of recording_grammar (Version ∷ Count count ∷ said rs)) (sym read.counted);
      learnt = read.numbers.learnt;
      history = read.numbers.numbered;
    }

-- where nothing is known at the start, it is the history that the recording stands for
pub stands-alone : (new : List (List ℕ)) (text : List ℕ) (ops : List Stamped) → StandsBehind [] new text ops → StandsFor text ops
stands-alone new text ops is = record {
  recording = is.recording;
  in_range = is.in_range;
  spelled = is.spelled;
  history = is.history ∙ ap (λ (known : List (List ℕ)). map (stamped_by known) is.recording) is.learnt;
}

-- the first line is wrong
pub fault-version : (text says rest : List ℕ) → text ≡ line says ++ rest → HasNo 10 says → says ≢ version_line → HasFirstFault text 1 Form
fault-version text says rest split whole other =
    first_fault-line recording_grammar VersionDue VersionDue [] text text says rest 1 Form (Begins-nothing recording_grammar VersionDue text) refl refl refl split whole (wrong-version says other)

-- it is not there
pub fault-no_version : (text : List ℕ) → HasNo 10 text → HasFirstFault text 1 End
fault-no_version text none = first_fault-end recording_grammar VersionDue VersionDue [] text text 1 (Begins-nothing recording_grammar VersionDue text) refl refl refl none

-- the first line is read
begins-version : (text says rest : List ℕ) → text ≡ line says ++ rest → says ≡ version_line → Begins recording_grammar VersionDue (Version ∷ []) text rest
begins-version text says rest split is =
    Begins-more recording_grammar VersionDue VersionDue [] Version text text rest (Begins-nothing recording_grammar VersionDue text) refl refl tt tt
    (split ∙ ap (λ (says : List ℕ). line says ++ rest) is)

-- the second line is wrong
pub fault-count : (text version later says rest : List ℕ) (cause : TextCause) → text ≡ line version ++ later → version ≡ version_line → later ≡ line says ++ rest → HasNo 10 says
    → IsWrong (SaysCount says) IsCount cause → HasFirstFault text 2 cause
fault-count text version later says rest cause first is split whole wrong =
    first_fault-line recording_grammar VersionDue CountDue (Version ∷ []) text later says rest 2 cause (begins-version text version later first is) refl refl refl split whole
    (wrong-count says cause wrong)

-- it is not there
pub fault-no_count : (text version later : List ℕ) → text ≡ line version ++ later → version ≡ version_line → HasNo 10 later → HasFirstFault text 2 End
fault-no_count text version later first is none =
    first_fault-end recording_grammar VersionDue CountDue (Version ∷ []) text later 2 (begins-version text version later first is) refl refl refl none

-- both lines are read
pub after-count : (text version later says rest : List ℕ) (count : ℕ) → text ≡ line version ++ later → version ≡ version_line → later ≡ line says ++ rest → SaysCount says count → IsCount count
    → IsAfterCount text count rest
after-count text version later says rest count first is split said range = (
  range,
  first ∙ (λ i. line (is i) ++ (split ∙ ap (λ (says : List ℕ). line says ++ rest) said) i),
)
