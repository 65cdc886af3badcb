use Rattle.std.proofs.Common.{◌≡◌, ◌≤◌, ◌+◌, Some}
use Rattle.std.specs.Prelude.{replicate}
use Rattle.step_machine.specs.declared.actors.Move.TheVariants.{Step}
use Rattle.run_engine.specs.Runs.{world_after}
use Rattle.run_engine.proofs.events.make_steps.Given as goal

abbrev pub invariant-loop : goal.invariant-loop
invariant-loop g l = record {
  led : world_after (replicate l.counter (Step l.actor)) l.fn.world ≡ Some l.world;
  steps : l.world.steps ≤ l.fn.world.steps + l.counter;
}
