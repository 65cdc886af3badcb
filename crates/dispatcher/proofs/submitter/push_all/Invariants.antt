use Rattle.std.specs.Prelude.{◌≡◌}
use Rattle.shared_queue.specs.Queues.{numbers_in}
use Rattle.dispatcher.specs.Workers.{IsGiver, HasPushed}
use Rattle.dispatcher.proofs.submitter.push_all.Given as goal

abbrev pub invariant-loop-count : goal.invariant-loop-count
invariant-loop-count g l = record {
  seat : IsGiver g.Q.Fifo.is_seat g.Q.Fifo.permits g.Q.Fifo.known (numbers_in l.fn.queue) l.seat;
  number : (g.Q.Fifo.known l.seat).number ≡ (g.Q.Fifo.known l.initial.seat).number;
  mine : HasPushed (g.Q.Fifo.known l.initial.seat) l.count (g.Q.Fifo.known l.seat);
}
