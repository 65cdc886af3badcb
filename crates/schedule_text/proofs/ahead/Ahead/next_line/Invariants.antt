use Rattle.std.proofs.Common.{◌+◌, length}
use Rattle.schedule_text.specs.Streams.{stream}
use Rattle.schedule_text.proofs.Streams.{IsInLine}
use Rattle.schedule_text.proofs.ahead.Ahead.next_line.Given as goal

abbrev pub invariant-loop-byte : goal.invariant-loop-byte
invariant-loop-byte g l =
    IsInLine l.held (stream l.fn.self (g.R.Source.state l.fn.reader)) (stream l.self (g.R.Source.state l.reader))

abbrev pub decreases-loop-byte : goal.decreases-loop-byte
decreases-loop-byte g l = (g.R.Source.state l.reader).budget + length l.self
