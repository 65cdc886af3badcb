-- The lemma is the law.
use Rattle.step_machine.proofs.EachHistory.{replay_to_the_values}
use Rattle.step_machine.proofs.histories.operations_replay_to_the_values.Goals as goal

pub returns : goal.returns
returns c = replay_to_the_values
