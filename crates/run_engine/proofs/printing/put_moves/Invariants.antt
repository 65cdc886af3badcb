use Rattle.std.proofs.Common.{◌+◌, ◌-◌, ◌≤◌}
use Rattle.std.specs.Prelude.{replicate}
use Rattle.run_engine.proofs.HasTold.{HasTold}
use Rattle.run_engine.proofs.printing.put_moves.Given as goal

-- the copies before this one were made and told
abbrev pub invariant-loop : goal.invariant-loop
invariant-loop g l = record {
  told : HasTold (g.P.RunPrinter.pieces l.printer).each (g.W.Sink.state l.fn.writer) (g.W.Sink.state l.writer) l.fn.block l.fn.world (replicate l.count l.one) l.world l.block
      (replicate (l.count - l.counter) l.one);
  steps : l.world.steps ≤ l.fn.world.steps + l.counter;
}
