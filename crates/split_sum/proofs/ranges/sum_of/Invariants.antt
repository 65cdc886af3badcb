use Rattle.std.proofs.Common.{◌≡◌}
use Rattle.split_sum.specs.Squares.{squares}
use Rattle.split_sum.proofs.ranges.sum_of.Given as goal

abbrev pub invariant-loop-at : goal.invariant-loop-at
invariant-loop-at l = l.sum ≡ squares l.fn.range.first l.at
