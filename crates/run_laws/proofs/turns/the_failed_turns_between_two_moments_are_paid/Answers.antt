-- The lemma is the law.
use Rattle.run_laws.proofs.Between.{moments_paid}
use Rattle.run_laws.proofs.turns.the_failed_turns_between_two_moments_are_paid.Goals as goal

pub returns : goal.returns
returns g c = moments_paid
