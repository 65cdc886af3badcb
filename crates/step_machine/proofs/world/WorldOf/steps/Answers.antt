-- A world that calls lead to is reached.
use Rattle.std.proofs.Common.{subst}
use Rattle.step_machine.specs.Machine.{IsReached}
use Rattle.step_machine.proofs.Reached.{made_reached}
use Rattle.step_machine.proofs.world.WorldOf.steps.Goals as goal

pub returns-clause-reached : goal.returns-clause-reached
returns-clause-reached g c = subst IsReached c.self.view_is (made_reached _ c.self.invariant.made)
