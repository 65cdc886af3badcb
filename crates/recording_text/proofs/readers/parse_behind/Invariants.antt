use Rattle.recording_text.specs.RecordingReading.{known_by}
use Rattle.recording_text.proofs.Steps.{HasRead}
use Rattle.recording_text.proofs.readers.parse_behind.Given as goal

abbrev pub invariant-loop-place : goal.invariant-loop-place
invariant-loop-place l = HasRead (known_by l.fn.known) l.count l.text l.rest l.place (known_by l.known) l.operations.items
