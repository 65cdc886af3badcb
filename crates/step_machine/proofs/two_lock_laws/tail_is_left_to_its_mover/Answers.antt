-- The lemma is the law.
use Rattle.step_machine.proofs.Locks.{leave_tail_to_its_mover}
use Rattle.step_machine.proofs.two_lock_laws.tail_is_left_to_its_mover.Goals as goal

pub returns : goal.returns
returns c = leave_tail_to_its_mover
