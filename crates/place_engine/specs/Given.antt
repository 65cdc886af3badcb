-- The texts that `place` reads: of a history, or of a recording, which stands for one.
use Rattle.std.specs.Prelude.{◌≡◌, ◌⊎◌, ℕ, Bool, false, nat_eq, if◌then◌else◌, List, Option, slice_get, Some, None, ⊤}
use Rattle.std.specs.Option.{option_map_or}
use Rattle.text_io.specs.Grammars.{Grammar, IsFirstFault}
use Rattle.text_io.specs.Listings.{First}
use Rattle.text_io.specs.Readings.{WereAll}
use Rattle.history.specs.declared.operations.Stamped.{Stamped}
use Rattle.history.specs.declared.refusals.Refusal.{Refusal}
use Rattle.history.specs.declared.refusals.Refusal.TheVariants.{Text}
use Rattle.history_text.specs.HistoryLines.{HistoryDue, HistoryLine, IsHistoryInRange, history_grammar}
use Rattle.history_text.specs.HistoryText.{history_text}
use Rattle.recording_text.specs.Recordings.{Recorded}
use Rattle.recording_text.specs.RecordingLines.{RecordingDue, RecordingLine, VersionDue, recording_grammar, recording_text, IsRecordingInRange, HasFirstFault}
use Rattle.recording_text.specs.RecordingReading.{StandsFor}
use Rattle.place_engine.specs.EitherGrammars.{EitherDue, EitherLine, Start, either_grammar}
use Rattle.place_engine.specs.declared.recorded_texts.Given.{Given}

-- whether a text can be a recording's: its first byte is that of `msq`
abbrev pub begins_as_recording : List ℕ → Bool
begins_as_recording text = option_map_or (λ byte. nat_eq byte 109) (slice_get text 0) false

-- the grammar of histories and recordings
abbrev pub recorded_grammar : Grammar (EitherDue HistoryDue RecordingDue) (EitherLine HistoryLine RecordingLine)
recorded_grammar = either_grammar history_grammar recording_grammar First VersionDue

-- the text that was given
abbrev pub given_text : Given → List ℕ
given_text given = given.text.items

-- how many lines of a text come before those of its operations: two of a recording, one of a history
abbrev pub header_of : List ℕ → ℕ
header_of text = if begins_as_recording text then 2 else 1

-- a text is that of these operations
pub record IsHistoryText (text : List ℕ) (ops : List Stamped) : Type 0 where
  pub in_range : IsHistoryInRange ops
  pub spelled : text ≡ history_text ops

-- a text is that of these operations, or of a recording that stands for them
abbrev pub IsRecordText : List ℕ → List Stamped → Type 0
IsRecordText text ops = IsHistoryText text ops ⊎ StandsFor text ops

-- the text and the history go together
abbrev pub IsGivenInRange : Given → Type 0
IsGivenInRange given = IsRecordText given.text.items given.history.items

-- known bytes were this text, which is that of these operations, or of a recording that stands for them
pub record IsRecordOf (given : Option (List ℕ)) (text : List ℕ) (ops : List Stamped) : Type 0 where
  pub read : WereAll given text
  pub stands : IsRecordText text ops

-- where known bytes are refused as a text, that is their first faulty line as a history or a recording, and what is wrong
abbrev pub TellsFaultOfRecord : (given : Option (List ℕ)) → Refusal → Type 0
TellsFaultOfRecord None refusal = ⊤
TellsFaultOfRecord (Some text) (Text number cause) = IsFirstFault recorded_grammar Start text number cause
TellsFaultOfRecord (Some text) _ = ⊤

-- a text is that of a recording in range
abbrev pub IsTextOfRecording : List ℕ → Type 0
IsTextOfRecording text = (rs : List Recorded) × IsRecordingInRange rs × (text ≡ recording_text rs)

-- where known bytes are refused as a recording, that is their first faulty line, and what is wrong
abbrev pub TellsFaultOfRecording : (given : Option (List ℕ)) → Refusal → Type 0
TellsFaultOfRecording None refusal = ⊤
TellsFaultOfRecording (Some text) (Text number cause) = HasFirstFault text number cause
TellsFaultOfRecording (Some text) _ = ⊤
