use Rattle.step_machine.proofs.TwoLockLaws.{refuse_with_cause}
use Rattle.step_machine.proofs.two_lock_laws.refusals_have_their_cause.Goals as goal

pub returns : goal.returns
returns c = refuse_with_cause
