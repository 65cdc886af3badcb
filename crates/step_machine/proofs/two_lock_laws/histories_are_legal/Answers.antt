use Rattle.step_machine.proofs.EachLegal.{histories_are_legal}
use Rattle.step_machine.proofs.two_lock_laws.histories_are_legal.Goals as goal

pub returns : goal.returns
returns c = λ w r e. histories_are_legal w r
