-- The lemma is the law.
use Rattle.step_machine.proofs.Pasts.{only_add}
use Rattle.step_machine.proofs.histories.moves_only_add_to_a_history.Goals as goal

pub returns : goal.returns
returns c = only_add
