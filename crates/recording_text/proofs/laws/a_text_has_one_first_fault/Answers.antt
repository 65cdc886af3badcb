-- Each clause is a law of grammars, at that of recordings.
use Rattle.text_io.proofs.Single.{no_fault, one_fault}
use Rattle.recording_text.specs.RecordingLines.{VersionDue, recording_grammar, recording_lines, recording_text}
use Rattle.recording_text.proofs.OneReading.{IsText-recording}
use Rattle.recording_text.proofs.Spelling.{IsSoundGrammar-recording}
use Rattle.recording_text.proofs.laws.a_text_has_one_first_fault.Goals as goal

pub returns : goal.returns
returns c = record {
  one = one_fault recording_grammar IsSoundGrammar-recording VersionDue;
  none = λ rs n c range. no_fault recording_grammar IsSoundGrammar-recording VersionDue (recording_lines rs) (recording_text rs) n c (IsText-recording rs range);
}
