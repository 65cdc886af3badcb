-- The lemma is the law.
use Rattle.progress.proofs.Paid.{steps_of_a_call_are_paid}
use Rattle.progress.proofs.laws.the_steps_of_a_call_are_paid.Goals as goal

pub returns : goal.returns
returns c = steps_of_a_call_are_paid
