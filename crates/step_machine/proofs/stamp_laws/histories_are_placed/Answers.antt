-- The lemma is the law.
use Rattle.step_machine.proofs.StampsLaws.{histories_are_placed}
use Rattle.step_machine.proofs.stamp_laws.histories_are_placed.Goals as goal

pub returns : goal.returns
returns c = histories_are_placed
