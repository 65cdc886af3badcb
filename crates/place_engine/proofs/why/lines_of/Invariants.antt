use Rattle.std.proofs.Common.{◌≡◌, ◌++◌, length, map}
use Rattle.recording_text.specs.RecordingReading.{bytes_of}
use Rattle.place_engine.specs.WhyTexts.{lines_in}
use Rattle.place_engine.proofs.why.lines_of.Given as goal

abbrev pub invariant-loop-line : goal.invariant-loop-line
invariant-loop-line l = lines_in l.text ≡ map bytes_of l.lines.items ++ lines_in l.rest

abbrev pub decreases-loop-line : goal.decreases-loop-line
decreases-loop-line l = length l.rest
