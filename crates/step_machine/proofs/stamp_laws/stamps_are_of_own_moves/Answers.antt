-- The lemma is the law.
use Rattle.step_machine.proofs.StampsLaws.{stamps_are_of_own_moves}
use Rattle.step_machine.proofs.stamp_laws.stamps_are_of_own_moves.Goals as goal

pub returns : goal.returns
returns c = stamps_are_of_own_moves
