-- The lemma is the law.
use Rattle.step_machine.proofs.NonBlockingLaws.{raise_below_the_limit}
use Rattle.step_machine.proofs.non_blocking_laws.counts_are_raised_below_the_limit.Goals as goal

pub returns : goal.returns
returns c = raise_below_the_limit
