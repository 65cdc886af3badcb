-- The lemmas are the laws.
use Rattle.step_machine.proofs.OneAtATime.{calls_one_at_a_time, traced_one_at_a_time}
use Rattle.step_machine.proofs.histories.no_actors_operations_overlap.Goals as goal

pub returns-clause-calls : goal.returns-clause-calls
returns-clause-calls c = calls_one_at_a_time

pub returns-clause-with_rests : goal.returns-clause-with_rests
returns-clause-with_rests c = traced_one_at_a_time
