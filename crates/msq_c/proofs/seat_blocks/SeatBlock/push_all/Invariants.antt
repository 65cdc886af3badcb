use Rattle.std.proofs.Common.{◌-◌, length}
use Rattle.msq_c.specs.Many.{PushedSo}
use Rattle.msq_c.proofs.seat_blocks.SeatBlock.push_all.Given as goal

abbrev pub invariant-loop-pushed : goal.invariant-loop-pushed
invariant-loop-pushed l = PushedSo l.fn.self l.numbers l.pushed l.self

abbrev pub decreases-loop-pushed : goal.decreases-loop-pushed
decreases-loop-pushed l = length l.numbers - l.pushed
