use Rattle.std.proofs.Common.{◌≡◌}
use Rattle.shared_queue.specs.Queues.{queue_of}
use Rattle.tasks.specs.Leaders.{GoesOn}
use Rattle.tasks.proofs.leader.lead_on.Given as goal

abbrev pub invariant-loop : goal.invariant-loop
invariant-loop g l = record {
  can : (goal.iterator-loop g).can_next l.iterator';
  finite : (goal.iterator-loop g).is_finite l.iterator';
  goes : GoesOn g.C.Carrier.is_seat g.C.Carrier.permits g.C.Carrier.known g.D.Carrier.is_seat g.D.Carrier.permits g.D.Carrier.known g.T.Task.answers
      g.F.Feed.stands (queue_of l.fn.tasks) (queue_of l.fn.results) l.initial.leader l.leader;
  kept : g.F.Feed.kept l.leader.feed ≡ g.F.Feed.kept l.initial.leader.feed;
}
