use Rattle.show_engine.proofs.Gives.{gave_steps}
use Rattle.show_engine.proofs.move_rows.told_give.Goals as goal

pub returns-clause-steps : goal.returns-clause-steps
returns-clause-steps g c = gave_steps c.args.world.now c.step_in.new.world c.args.actor c.in-Ok.ensures.ok
