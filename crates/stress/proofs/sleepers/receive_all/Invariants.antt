use Rattle.shared_queue.specs.Queues.{numbers_in}
use Rattle.stress.specs.Sleepers.{CanReceive}
use Rattle.stress.proofs.sleepers.receive_all.Given as goal

abbrev pub invariant-loop : goal.invariant-loop
invariant-loop g l = record {
  can : (goal.iterator-loop g).can_next l.iterator';
  finite : (goal.iterator-loop g).is_finite l.iterator';
  seat : CanReceive g.Q.Fifo.is_seat g.Q.Fifo.permits g.Q.Fifo.known (numbers_in l.fn.queue) l.seat;
}
