-- The grammar of recordings: what each line may say, in which words, and which of this is in range.
use Rattle.std.specs.Prelude.{◌<◌, ◌≤◌, ◌-◌, ℕ, zero, suc, List, [], ◌∷◌, ◌++◌, Option, Some, None, IfSome, Bool, true, false, IsTrue, ◌||◌, nat_eq, length, codes, map, All}
use Rattle.std.specs.Char.{is_ascii_alphanumeric}
use Rattle.history.specs.declared.text_causes.TextCause.{TextCause}
use Rattle.text_io.specs.Lines.{spaced}
use Rattle.text_io.specs.Numerals.{numeral}
use Rattle.text_io.specs.Printable.{IsShort}
use Rattle.text_io.specs.Grammars.{Grammar, IsFirstFault, lines_of}
use Rattle.history.specs.declared.refusals.Refusal.{Refusal}
use Rattle.history.specs.declared.refusals.Refusal.TheVariants.{Memory, Text}
use Rattle.history_text.specs.HistoryLines.{step_word, IsStep, IsStepInRange}
use Rattle.recording_text.specs.Recordings.{Call, Push, Pop, Shut, Told, Done, Value, Empty, Refused, Closed, Recorded}

-- whether a byte is a letter, a digit, a dash, a point or an underscore
abbrev pub is_text_byte : ℕ → Bool
is_text_byte b = is_ascii_alphanumeric b || nat_eq b 45 || nat_eq b 46 || nat_eq b 95

-- a byte is such a one
abbrev pub IsTextByte : ℕ → Type 0
IsTextByte b = IsTrue (is_text_byte b)

-- a word is a text: one such byte or more
abbrev pub IsText : List ℕ → Type 0
IsText word = (0 < length word) × All IsTextByte word

-- what a line of a recording says: that it is one, how many operations there are, or one of them
pub data RecordingLine : Type 0 where
  Version : RecordingLine
  Count : ℕ → RecordingLine
  Operation : Recorded → RecordingLine

-- what is due: the first line, the second one, or so many operations
pub data RecordingDue : Type 0 where
  VersionDue : RecordingDue
  CountDue : RecordingDue
  Operations : ℕ → RecordingDue

-- a call: `enq` and a text, `deq`, or `shut`
abbrev pub call_words : Call → List (List ℕ)
call_words (Push text) = codes "enq" ∷ text ∷ []
call_words Pop = codes "deq" ∷ []
call_words Shut = codes "shut" ∷ []

-- what was told, or a dash where nothing was
abbrev pub told_words : Option Told → List (List ℕ)
told_words None = codes "-" ∷ []
told_words (Some Done) = codes "done" ∷ []
told_words (Some (Value text)) = codes "value" ∷ text ∷ []
told_words (Some Empty) = codes "empty" ∷ []
told_words (Some Refused) = codes "refused" ∷ []
told_words (Some Closed) = codes "closed" ∷ []

-- the words of an operation behind those of its call
abbrev pub span_words : Recorded → List (List ℕ)
span_words r = codes "from" ∷ numeral r.first ∷ codes "to" ∷ step_word r.last ∷ codes "reply" ∷ told_words r.told

-- the words of an operation
abbrev pub operation_words : Recorded → List (List ℕ)
operation_words r = r.name ∷ call_words r.call ++ span_words r

-- the bytes of the first line
abbrev pub version_line : List ℕ
version_line = codes "msq record 1"

-- the words of a line
abbrev pub line_words : RecordingLine → List (List ℕ)
line_words Version = codes "msq" ∷ codes "record" ∷ codes "1" ∷ []
line_words (Count count) = codes "operations" ∷ numeral count ∷ []
line_words (Operation r) = operation_words r

-- what a call pushes is a text
abbrev pub IsTextCall : Call → Type 0
IsTextCall (Push text) = IsText text
IsTextCall Pop = Unit {0}
IsTextCall Shut = Unit {0}

-- what was told is a text, where it is a value
abbrev pub IsTextTold : Option Told → Type 0
IsTextTold None = Unit {0}
IsTextTold (Some Done) = Unit {0}
IsTextTold (Some (Value text)) = IsText text
IsTextTold (Some Empty) = Unit {0}
IsTextTold (Some Refused) = Unit {0}
IsTextTold (Some Closed) = Unit {0}

-- the name and the values of an operation are texts
pub record IsSayable (r : Recorded) : Type 0 where
  pub name : IsText r.name
  pub call : IsTextCall r.call
  pub told : IsTextTold r.told

-- a text has at most 64 bytes
abbrev pub IsShortText : List ℕ → Type 0
IsShortText text = IsShort 64 text

-- what a call pushes is short
abbrev pub IsCallInRange : Call → Type 0
IsCallInRange (Push text) = IsShortText text
IsCallInRange Pop = Unit {0}
IsCallInRange Shut = Unit {0}

-- what was told is short, where it is a value
abbrev pub IsToldInRange : Option Told → Type 0
IsToldInRange (Some (Value text)) = IsShortText text
IsToldInRange _ = Unit {0}

-- a call that ended didn't do so before it began
abbrev pub IsInTime : (first : ℕ) (last : Option ℕ) → Type 0
IsInTime first last = IfSome last (λ last. first ≤ last)

-- the numbers and texts of an operation are in range
pub record IsOperationInRange (r : Recorded) : Type 0 where
  pub name : IsShortText r.name
  pub call : IsCallInRange r.call
  pub first : IsStep r.first
  pub last : IsStepInRange r.last
  pub in_time : IsInTime r.first r.last
  pub told : IsToldInRange r.told

-- an operation is one that a line of a recording may say
abbrev pub IsReadable : Recorded → Type 0
IsReadable r = IsSayable r × IsOperationInRange r

-- a recording that a text can hold: at most 1,000,000 operations, each of which a line may say
pub record IsRecordingInRange (rs : List Recorded) : Type 0 where
  pub count : length rs ≤ 1000000
  pub each : All IsReadable rs

-- whether a line is due
abbrev pub is_line_due : RecordingDue → Bool
is_line_due VersionDue = true
is_line_due CountDue = true
is_line_due (Operations zero) = false
is_line_due (Operations (suc left)) = true

-- what a line may say: first that this is a recording, then how many operations there are, then an operation
abbrev pub MaySay : RecordingDue → RecordingLine → Type 0
MaySay VersionDue Version = Unit {0}
MaySay CountDue (Count count) = Unit {0}
MaySay (Operations left) (Operation r) = IsSayable r
MaySay _ _ = ⊥

-- there are at most 1,000,000 operations, and the numbers and texts of each are in range
abbrev pub IsLineInRange : RecordingLine → Type 0
IsLineInRange Version = Unit {0}
IsLineInRange (Count count) = count ≤ 1000000
IsLineInRange (Operation r) = IsOperationInRange r

-- how many operations are due after a line that says it
abbrev pub operations_after : RecordingLine → ℕ
operations_after (Count count) = count
operations_after _ = 0

-- what is due after a line
abbrev pub due_after : RecordingDue → RecordingLine → RecordingDue
due_after VersionDue said = CountDue
due_after CountDue said = Operations (operations_after said)
due_after (Operations left) said = Operations (left - 1)

-- the grammar of recordings
abbrev pub recording_grammar : Grammar RecordingDue RecordingLine
recording_grammar = record {
  is_due = is_line_due;
  may_say = MaySay;
  in_range = λ due said. IsLineInRange said;
  words = λ said. spaced (line_words said);
  after = due_after;
}

-- the lines of a recording: that it is one, how many operations there are, and each of them
abbrev pub recording_lines : List Recorded → List RecordingLine
recording_lines rs = Version ∷ Count (length rs) ∷ map (λ r. Operation r) rs

-- the text of a recording
unfoldable pub recording_text : List Recorded → List ℕ
recording_text rs = lines_of recording_grammar (recording_lines rs)

-- the first faulty line of a text, as one of a recording, has this number, and is wrong for this cause
abbrev pub HasFirstFault : List ℕ → ℕ → TextCause → Type 0
HasFirstFault text number cause = IsFirstFault recording_grammar VersionDue text number cause

-- the refusal of a text that is no recording's: its first faulty line and what is wrong with it, or no room
abbrev pub IsFirstFaultOfRecording : List ℕ → Refusal → Type 0
IsFirstFaultOfRecording text (Text number cause) = HasFirstFault text number cause
IsFirstFaultOfRecording text Memory = Unit {0}
IsFirstFaultOfRecording text _ = ⊥
