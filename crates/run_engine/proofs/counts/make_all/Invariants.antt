use Rattle.std.proofs.Common.{◌≡◌, ◌≤◌, length}
use Rattle.run_engine.proofs.HasCounted.{HasCounted}
use Rattle.run_engine.proofs.counts.make_all.Given as goal

-- the events before the one at hand were made
abbrev pub invariant-loop-event : goal.invariant-loop-event
invariant-loop-event g l = record {
  counted : HasCounted l.fn.world l.events l.world l.event-index;
  made : l.made ≡ l.event-index;
  within : l.event-index ≤ length l.events;
}
