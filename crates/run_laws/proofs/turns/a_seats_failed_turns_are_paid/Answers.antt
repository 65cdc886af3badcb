-- The lemma is the law.
use Rattle.run_laws.proofs.Paid.{turns_paid}
use Rattle.run_laws.proofs.turns.a_seats_failed_turns_are_paid.Goals as goal

pub returns : goal.returns
returns c = turns_paid
