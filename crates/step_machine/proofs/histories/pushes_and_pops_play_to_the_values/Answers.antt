-- The lemma is the law.
use Rattle.step_machine.proofs.EachEntry.{plays_to_the_values}
use Rattle.step_machine.proofs.histories.pushes_and_pops_play_to_the_values.Goals as goal

pub returns : goal.returns
returns c = plays_to_the_values
