use Rattle.step_machine.proofs.TwoLockCounts.{count_nothing}
use Rattle.step_machine.proofs.two_lock_laws.tail_and_next_count_nothing.Goals as goal

pub returns : goal.returns
returns c = count_nothing
