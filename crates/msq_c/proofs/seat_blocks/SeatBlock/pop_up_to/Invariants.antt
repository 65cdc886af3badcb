use Rattle.std.proofs.Common.{◌-◌, length}
use Rattle.msq_c.specs.Many.{PoppedSo}
use Rattle.msq_c.proofs.seat_blocks.SeatBlock.pop_up_to.Given as goal

abbrev pub invariant-loop-popped : goal.invariant-loop-popped
invariant-loop-popped l = PoppedSo l.fn.self l.fn.values l.values l.popped l.self

abbrev pub decreases-loop-popped : goal.decreases-loop-popped
decreases-loop-popped l = length l.values - l.popped
