use Rattle.stress.specs.Sleepers.{CanSend}
use Rattle.stress.proofs.sleepers.push_all.Given as goal

abbrev pub invariant-loop-number : goal.invariant-loop-number
invariant-loop-number g l = CanSend g.Q.Fifo.is_seat g.Q.Fifo.permits g.Q.Fifo.known l.fn.queue l.seat
