use Rattle.step_machine.proofs.EachLegal.{head_counts_values_taken}
use Rattle.step_machine.proofs.non_blocking_laws.head_counts_the_values_taken.Goals as goal

pub returns : goal.returns
returns c = λ w r e. head_counts_values_taken w r
