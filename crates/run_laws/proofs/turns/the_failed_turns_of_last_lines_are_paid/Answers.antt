-- The lemma is the law.
use Rattle.run_laws.proofs.Paid.{each_lines_paid}
use Rattle.run_laws.proofs.turns.the_failed_turns_of_last_lines_are_paid.Goals as goal

pub returns : goal.returns
returns c = each_lines_paid
