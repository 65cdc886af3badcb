use Rattle.node_arena.proofs.Moved.{moved_nothing, moved_push, moved_pop, moved_shut}
use Rattle.node_arena.proofs.laws.a_step_moves_the_slot_of_what_it_adds.Goals as goal

pub returns-clause-quiet : goal.returns-clause-quiet
returns-clause-quiet g c r s t d = moved_nothing r s t d.prologue d.line d.found d.did d.carries d.added

pub returns-clause-pushes : goal.returns-clause-pushes
returns-clause-pushes g c r s t me body value d has = moved_push r s t d.prologue d.line d.found d.did d.carries me body value d.added has

pub returns-clause-pops : goal.returns-clause-pops
returns-clause-pops g c r s t me taken d none_out = moved_pop r s t d.prologue d.line d.found d.did d.carries me taken d.added none_out

pub returns-clause-shuts : goal.returns-clause-shuts
returns-clause-shuts g c r s t me d = moved_shut r s t d.prologue d.line d.found d.did d.carries me d.added
