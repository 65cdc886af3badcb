-- The lemma is the law.
use Rattle.step_machine.proofs.RepliesPlaced.{empty_at_the_last_look}
use Rattle.step_machine.proofs.stamp_laws.empty_replies_stand_at_their_last_look.Goals as goal

pub returns : goal.returns
returns c = empty_at_the_last_look
