-- The lemma is the law.
use Rattle.step_machine.proofs.Reached.{reached_in_range}
use Rattle.step_machine.proofs.laws.reached_worlds_are_in_range.Goals as goal

pub returns : goal.returns
returns c = reached_in_range
