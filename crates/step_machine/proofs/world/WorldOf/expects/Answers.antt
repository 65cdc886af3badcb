-- The bits of a made world's references are split as its setup says.
use Rattle.std.proofs.Common.{lit≤, subst}
use Rattle.step_machine.specs.Below.{IsSplit}
use Rattle.step_machine.proofs.world.WorldOf.expects.Goals as goal

pub expected_at-requires : goal.expected_at-requires
expected_at-requires g c = (lit≤ tt, subst IsSplit c.self.invariant.split c.self.invariant.made.sized.split)
