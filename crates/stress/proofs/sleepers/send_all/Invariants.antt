use Rattle.shared_queue.specs.Queues.{numbers_in}
use Rattle.stress.specs.Sleepers.{CanSend}
use Rattle.stress.proofs.sleepers.send_all.Given as goal

abbrev pub invariant-loop : goal.invariant-loop
invariant-loop g l = CanSend g.Q.Fifo.is_seat g.Q.Fifo.permits g.Q.Fifo.known (numbers_in l.fn.queue) l.seat
