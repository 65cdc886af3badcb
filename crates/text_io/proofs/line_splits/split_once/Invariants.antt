use Rattle.std.proofs.Common.{take}
use Rattle.text_io.specs.Lines.{HasNo}
use Rattle.text_io.proofs.line_splits.split_once.Given as goal

abbrev pub invariant-loop-at : goal.invariant-loop-at
invariant-loop-at l = HasNo l.byte (take l.at l.text)
