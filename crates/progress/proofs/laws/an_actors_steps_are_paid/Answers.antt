-- The lemma is the law.
use Rattle.progress.proofs.Paid.{steps_are_paid}
use Rattle.progress.proofs.laws.an_actors_steps_are_paid.Goals as goal

pub returns : goal.returns
returns c = steps_are_paid
