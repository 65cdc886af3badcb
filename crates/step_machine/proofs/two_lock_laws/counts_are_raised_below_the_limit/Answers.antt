use Rattle.step_machine.proofs.TwoLockLaws.{raise_below_the_limit}
use Rattle.step_machine.proofs.two_lock_laws.counts_are_raised_below_the_limit.Goals as goal

pub returns : goal.returns
returns c = raise_below_the_limit
