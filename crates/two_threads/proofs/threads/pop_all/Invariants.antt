use Rattle.shared_queue.specs.Queues.{numbers_in}
use Rattle.two_threads.specs.Duos.{HasPopped}
use Rattle.two_threads.proofs.threads.pop_all.Given as goal

abbrev pub invariant-loop : goal.invariant-loop
invariant-loop g l = record {
  can : (goal.iterator-loop g).can_next l.iterator';
  finite : (goal.iterator-loop g).is_finite l.iterator';
  popped : HasPopped g.Q.Fifo.is_seat g.Q.Fifo.known (numbers_in l.fn.queue) l.initial.seat l.seat l.taken.items;
}
