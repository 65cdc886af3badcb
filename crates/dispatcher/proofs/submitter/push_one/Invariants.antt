use Rattle.std.specs.Prelude.{◌≡◌}
use Rattle.shared_queue.specs.Queues.{numbers_in}
use Rattle.carriers.specs.Answers.{SeesMoreOf}
use Rattle.carriers.specs.DeedsOfNumbers.{known_by_deeds}
use Rattle.dispatcher.specs.Workers.{IsGiver}
use Rattle.dispatcher.proofs.submitter.push_one.Given as goal

abbrev pub invariant-loop : goal.invariant-loop
invariant-loop g l = record {
  can : (goal.iterator-loop g).can_next l.iterator';
  finite : (goal.iterator-loop g).is_finite l.iterator';
  seat : IsGiver g.Q.Fifo.is_seat g.Q.Fifo.permits g.Q.Fifo.known (numbers_in l.fn.queue) l.seat;
  number : (g.Q.Fifo.known l.seat).number ≡ (g.Q.Fifo.known l.initial.seat).number;
  more : SeesMoreOf (known_by_deeds (g.Q.Fifo.known l.initial.seat)) (known_by_deeds (g.Q.Fifo.known l.seat));
}
