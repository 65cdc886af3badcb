use Rattle.step_machine.proofs.TwoLockLaws.{tail_names_the_last}
use Rattle.step_machine.proofs.two_lock_laws.tail_names_the_last_node.Goals as goal

pub returns : goal.returns
returns c = tail_names_the_last
