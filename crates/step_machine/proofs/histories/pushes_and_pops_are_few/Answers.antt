-- The lemma is the law.
use Rattle.step_machine.proofs.Few.{are_few}
use Rattle.step_machine.proofs.histories.pushes_and_pops_are_few.Goals as goal

pub returns : goal.returns
returns c = are_few
