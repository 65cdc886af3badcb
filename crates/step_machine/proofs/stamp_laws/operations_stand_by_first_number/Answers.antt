-- The lemma is the law.
use Rattle.step_machine.proofs.StampsLaws.{operations_stand_by_first_number}
use Rattle.step_machine.proofs.stamp_laws.operations_stand_by_first_number.Goals as goal

pub returns : goal.returns
returns c = operations_stand_by_first_number
