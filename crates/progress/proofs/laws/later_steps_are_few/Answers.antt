-- The lemma is the law.
use Rattle.progress.proofs.Steps.{each_few_later}
use Rattle.progress.proofs.laws.later_steps_are_few.Goals as goal

pub returns : goal.returns
returns c = each_few_later
