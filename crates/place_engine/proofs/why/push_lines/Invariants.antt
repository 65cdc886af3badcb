use Rattle.std.proofs.Common.{◌≡◌, ◌++◌, map, take}
use Rattle.std.specs.List.{flat_map}
use Rattle.recording_text.specs.RecordingReading.{bytes_of}
use Rattle.place_engine.specs.WhyTexts.{told_line}
use Rattle.place_engine.proofs.why.push_lines.Given as goal

abbrev pub invariant-loop-place : goal.invariant-loop-place
invariant-loop-place l = l.into.items ≡ l.fn.into.items ++ flat_map (λ place. told_line (map bytes_of l.held) (map bytes_of l.lines) l.header place) (take l.place-index l.places)
