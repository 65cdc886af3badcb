-- The lemma is the law.
use Rattle.step_machine.proofs.Locks.{front_is_taken}
use Rattle.step_machine.proofs.two_lock_laws.values_are_taken_from_the_front.Goals as goal

pub returns : goal.returns
returns c = front_is_taken
