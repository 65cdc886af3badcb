use Rattle.std.proofs.Common.{◌≡◌, ◌+◌, ◌++◌, drop, map}
use Rattle.recording_text.specs.RecordingReading.{bytes_of}
use Rattle.show_engine.specs.Reasons.{rows_beside}
use Rattle.show_engine.proofs.beside.push_rows.Given as goal

-- the rows so far, and those of the other operations
abbrev pub invariant-loop-index : goal.invariant-loop-index
invariant-loop-index l =
    l.fn.into.items ++ rows_beside l.scale (map bytes_of l.lines) l.header l.places 1 l.history
    ≡ l.into.items ++ rows_beside l.scale (map bytes_of l.lines) l.header l.places (l.index + 1) (drop l.index l.history)
