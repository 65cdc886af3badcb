-- The lemma is the law.
use Rattle.progress.proofs.Paid.{failed_turns_of_a_call_are_paid}
use Rattle.progress.proofs.laws.the_failed_turns_of_a_call_are_paid.Goals as goal

pub returns : goal.returns
returns c = failed_turns_of_a_call_are_paid
