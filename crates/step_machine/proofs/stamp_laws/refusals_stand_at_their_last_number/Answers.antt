-- The lemma is the law.
use Rattle.step_machine.proofs.RepliesPlaced.{refused_at_the_end}
use Rattle.step_machine.proofs.stamp_laws.refusals_stand_at_their_last_number.Goals as goal

pub returns : goal.returns
returns c = refused_at_the_end
