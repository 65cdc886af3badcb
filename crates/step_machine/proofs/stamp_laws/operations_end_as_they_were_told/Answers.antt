-- The lemmas are the laws.
use Rattle.step_machine.proofs.Recorded.{end_as_told, tell_their_ends}
use Rattle.step_machine.proofs.stamp_laws.operations_end_as_they_were_told.Goals as goal

pub returns-clause-ends : goal.returns-clause-ends
returns-clause-ends c = end_as_told

pub returns-clause-each_end : goal.returns-clause-each_end
returns-clause-each_end c = tell_their_ends
