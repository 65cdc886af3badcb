use Rattle.first_threads.specs.Seats.{IsTaker}
use Rattle.first_threads.proofs.threads.pop_all.Given as goal

abbrev pub invariant-loop : goal.invariant-loop
invariant-loop g l = record {
  can : (goal.iterator-loop g).can_next l.iterator';
  finite : (goal.iterator-loop g).is_finite l.iterator';
  taker : IsTaker g.Q.Fifo.is_seat g.Q.Fifo.permits g.Q.Fifo.known l.fn.queue l.seat;
}
