-- The lemmas are the laws.
use Rattle.step_machine.proofs.EachHistory.{each_placed, each_legal}
use Rattle.step_machine.proofs.histories.every_history_is_placed_and_legal.Goals as goal

pub returns-clause-placed : goal.returns-clause-placed
returns-clause-placed c = each_placed

pub returns-clause-legal : goal.returns-clause-legal
returns-clause-legal c = each_legal
