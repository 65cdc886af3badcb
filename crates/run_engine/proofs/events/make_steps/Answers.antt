use Rattle.std.proofs.Common.{arith}
use Rattle.step_machine.specs.declared.actors.Move.TheVariants.{Step}
use Rattle.run_engine.proofs.Moves.{world_after-replicate_next}
use Rattle.run_engine.proofs.events.make_steps.Goals as goal

pub loop-preserved : goal.loop-preserved
loop-preserved g c =
    let made = c.in_ok-make_step.ensures in
    record {
      led = world_after-replicate_next c.loop.counter (Step c.args.actor) _ c.loop.world _ c.loop.invariant.led made.ok;
      steps = omega (arith, made.steps, c.loop.invariant.steps);
    }
