-- The lemmas are the laws.
use Rattle.step_machine.proofs.NumbersLie.{numbers_lie_in_one, numbers_lie_in_one_before_next}
use Rattle.step_machine.proofs.stamp_laws.each_number_lies_in_one_operation.Goals as goal

pub returns-clause-calls : goal.returns-clause-calls
returns-clause-calls c = numbers_lie_in_one

pub returns-clause-with_rests : goal.returns-clause-with_rests
returns-clause-with_rests c = numbers_lie_in_one_before_next
