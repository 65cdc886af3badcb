use Rattle.std.specs.Prelude.{◌≡◌}
use Rattle.shared_queue.specs.Queues.{queue_of}
use Rattle.tasks.specs.Turns.{HasRun}
use Rattle.tasks.proofs.turns.work.Given as goal

abbrev pub invariant-loop : goal.invariant-loop
invariant-loop g l = record {
  can : (goal.iterator-loop g).can_next l.iterator';
  finite : (goal.iterator-loop g).is_finite l.iterator';
  seat : g.C.Carrier.is_seat (queue_of l.fn.queue) l.seat;
  number : (g.C.Carrier.known l.seat).number ≡ (g.C.Carrier.known l.initial.seat).number;
  ran : HasRun g.T.Task.answers (g.C.Carrier.known l.initial.seat) (g.C.Carrier.known l.seat) l.done.items;
}
