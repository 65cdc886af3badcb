-- The lemma is the law.
use Rattle.step_machine.proofs.EachHistory.{each_linearizable}
use Rattle.step_machine.proofs.histories.every_history_is_linearizable.Goals as goal

pub returns : goal.returns
returns c = each_linearizable
