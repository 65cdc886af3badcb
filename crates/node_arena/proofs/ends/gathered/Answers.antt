use Rattle.std.proofs.Common.{nat_lt, map, ap, ◌∙◌}
use Rattle.history.specs.Ends.{pushes_of, pops_of, shuts_of}
use Rattle.node_arena.specs.Seats.{known_of}
use Rattle.node_arena.proofs.Gathers.{enters_beside, took_none}
use Rattle.node_arena.proofs.ends.gathered.Goals as goal

pub load_new_seat-requires : goal.load_new_seat-requires
load_new_seat-requires g c = (c.requires.words, enters_beside _ _)

pub gather-requires-clause-gatherer : goal.gather-requires-clause-gatherer
gather-requires-clause-gatherer g c = took_none _ _ c.load_new_seat.ensures.0 c.load_new_seat.ensures.1 c.load_new_seat.ensures.2

pub returns-clause-pushes : goal.returns-clause-pushes
returns-clause-pushes g c = c.pushes_by-pushes.ensures ∙ ap (λ xs. pushes_of (map known_of xs)) c.deref.ensures.value

pub returns-clause-pops : goal.returns-clause-pops
returns-clause-pops g c = c.pops_by-pops.ensures ∙ ap (λ xs. pops_of (map known_of xs)) c.deref-2.ensures.value

pub returns-clause-shut : goal.returns-clause-shut
returns-clause-shut g c = c.shut_by-shut.ensures ∙ ap (λ xs. nat_lt 0 (shuts_of (map known_of xs))) c.deref-3.ensures.value
