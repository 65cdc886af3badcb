-- The lemmas are the laws.
use Rattle.step_machine.proofs.StampsLaws.{operations_do_not_overlap, operations_do_not_overlap_or_rest}
use Rattle.step_machine.proofs.stamp_laws.operations_of_an_actor_do_not_overlap.Goals as goal

pub returns-clause-calls : goal.returns-clause-calls
returns-clause-calls c = operations_do_not_overlap

pub returns-clause-with_rests : goal.returns-clause-with_rests
returns-clause-with_rests c = operations_do_not_overlap_or_rest
