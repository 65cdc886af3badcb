-- The lemma is the law.
use Rattle.step_machine.proofs.Alone.{each_ends_alone}
use Rattle.step_machine.proofs.solo.an_actor_alone_ends_its_call.Goals as goal

pub returns : goal.returns
returns c = each_ends_alone
