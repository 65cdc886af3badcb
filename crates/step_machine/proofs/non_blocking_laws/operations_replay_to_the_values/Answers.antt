use Rattle.step_machine.proofs.EachLegal.{replay_to_the_values}
use Rattle.step_machine.proofs.non_blocking_laws.operations_replay_to_the_values.Goals as goal

pub returns : goal.returns
returns c = λ w r e. replay_to_the_values w r
