use Rattle.std.proofs.Common.{◌*◌, ◌≤◌, drop}
use Rattle.schedule_text.specs.Schedules.{moves_of}
use Rattle.run_engine.proofs.HasTold.{HasTold}
use Rattle.run_engine.proofs.printing.put_events.Given as goal

-- the events before this one were made and told
abbrev pub invariant-loop-event : goal.invariant-loop-event
invariant-loop-event g l = record {
  told : HasTold (g.P.RunPrinter.pieces l.printer).each (g.W.Sink.state l.fn.writer) (g.W.Sink.state l.writer) l.fn.block l.fn.world (moves_of l.events) l.world l.block
      (moves_of (drop l.event-index l.events));
  steps : l.world.steps ≤ l.event-index * 1000000;
}
