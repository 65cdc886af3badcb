use Rattle.std.proofs.Common.{map, take}
use Rattle.recording_text.specs.RecordingReading.{bytes_of, known_by}
use Rattle.recording_text.proofs.HeldTexts.{HasPushed}
use Rattle.recording_text.proofs.held.pushes_of.Given as goal

abbrev pub invariant-loop-index : goal.invariant-loop-index
invariant-loop-index l = HasPushed (map bytes_of (take l.index l.held)) (known_by l.known) l.history.items
