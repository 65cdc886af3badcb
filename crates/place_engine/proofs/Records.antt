-- Which of two grammars a text is in, by its first byte.
use Rattle.std.proofs.Common.{◌≡◌, ℕ, List, ◌++◌, true, false, refl, ap, ◌∙◌, Option, Some, None}
use Rattle.text_io.specs.Lines.{line}
use Rattle.text_io.specs.Grammars.{Says}
use Rattle.text_io.specs.Listings.{First, Header, Item}
use Rattle.text_io.specs.Prefixes.{IsRefusedBy, IsRefusedReading}
use Rattle.history.specs.declared.refusals.Refusal.{Refusal}
use Rattle.history.specs.declared.refusals.Refusal.TheVariants.{Text, Memory}
use Rattle.history_text.specs.HistoryLines.{HistoryLine, IsFirstFaultOfHistory, history_grammar}
use Rattle.recording_text.specs.RecordingLines.{RecordingLine, Version, Count, Operation, VersionDue, IsFirstFaultOfRecording, recording_grammar}
use Rattle.place_engine.specs.EitherGrammars.{Start}
use Rattle.place_engine.specs.Given.{begins_as_recording, recorded_grammar, TellsFaultOfRecord, TellsFaultOfRecording}
use Rattle.place_engine.proofs.Eithers.{first_fault-one, first_fault-other}

-- a text with another first byte has no first line of a recording
no_recording : (text : List ℕ) → begins_as_recording text ≡ false → (says later : List ℕ) → text ≡ line says ++ later → (q : RecordingLine) → ¬ Says recording_grammar VersionDue says q
no_recording text other says later split Version said =
    let begins : begins_as_recording text ≡ true = ap begins_as_recording (split ∙ ap (λ (says : List ℕ). line says ++ later) said.spelled) in
    absurd cc
no_recording text other says later split (Count count) said = absurd said.may
no_recording text other says later split (Operation r) said = absurd said.may

-- a text with this first byte has none of a history
no_history : (text : List ℕ) → begins_as_recording text ≡ true → (says later : List ℕ) → text ≡ line says ++ later → (q : HistoryLine) → ¬ Says history_grammar First says q
no_history text begins says later split (Header count) said =
    let other : begins_as_recording text ≡ false = ap begins_as_recording (split ∙ ap (λ (says : List ℕ). line says ++ later) said.spelled) in
    absurd cc
no_history text begins says later split (Item o) said = absurd said.may

-- what is told of a text as a history, or as a recording, is so of a text of either
pub refused-history : (text : List ℕ) (refusal : Refusal) → begins_as_recording text ≡ false → IsFirstFaultOfHistory text refusal → IsRefusedBy recorded_grammar Start text refusal
refused-history text (Text number cause) other fault = first_fault-one history_grammar recording_grammar First VersionDue text number cause refl (no_recording text other) fault
refused-history text Memory other fault = tt
refused-history text _ other fault = absurd fault

pub refused-recording : (text : List ℕ) (refusal : Refusal) → begins_as_recording text ≡ true → IsFirstFaultOfRecording text refusal → IsRefusedBy recorded_grammar Start text refusal
refused-recording text (Text number cause) begins fault = first_fault-other history_grammar recording_grammar First VersionDue text number cause refl (no_history text begins) fault
refused-recording text Memory begins fault = tt
refused-recording text _ begins fault = absurd fault

-- what known bytes are refused for
pub fault-read : (given : Option (List ℕ)) (refusal : Refusal) → IsRefusedReading recorded_grammar Start given refusal → TellsFaultOfRecord given refusal
fault-read None refusal refused = tt
fault-read (Some text) (Text number cause) refused = refused
fault-read (Some text) _ refused = tt

-- what is told of a text as a recording
pub refused-alone : (text : List ℕ) (refusal : Refusal) → IsFirstFaultOfRecording text refusal → IsRefusedBy recording_grammar VersionDue text refusal
refused-alone text (Text number cause) fault = fault
refused-alone text Memory fault = tt
refused-alone text _ fault = absurd fault

-- what known bytes are refused for as a recording
pub fault-read_alone : (given : Option (List ℕ)) (refusal : Refusal) → IsRefusedReading recording_grammar VersionDue given refusal → TellsFaultOfRecording given refusal
fault-read_alone None refusal refused = tt
fault-read_alone (Some text) (Text number cause) refused = refused
fault-read_alone (Some text) _ refused = tt
