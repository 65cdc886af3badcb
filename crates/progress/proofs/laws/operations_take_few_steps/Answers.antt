-- The lemma is the law.
use Rattle.progress.proofs.Steps.{each_few}
use Rattle.progress.proofs.laws.operations_take_few_steps.Goals as goal

pub returns : goal.returns
returns c = each_few
