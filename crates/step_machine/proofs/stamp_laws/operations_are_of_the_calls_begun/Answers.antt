-- The lemma is the law.
use Rattle.step_machine.proofs.Recorded.{are_of_calls_begun}
use Rattle.step_machine.proofs.stamp_laws.operations_are_of_the_calls_begun.Goals as goal

pub returns : goal.returns
returns c = are_of_calls_begun
