use Rattle.carriers.proofs.Emptying.{drained_until_empty, ends_empty, popped_until_empty}
use Rattle.carriers.proofs.Owning.{own_until_empty}
use Rattle.carriers.proofs.drained.items_until_empty_are_pops.Goals as goal

pub returns-clause-all : goal.returns-clause-all
returns-clause-all g c = drained_until_empty g.Q.Fifo.is_seat g.Q.Fifo.known g.Q.Fifo.pop_cause

pub returns-clause-own : goal.returns-clause-own
returns-clause-own g c = own_until_empty

pub returns-clause-so_far : goal.returns-clause-so_far
returns-clause-so_far g c = popped_until_empty g.Q.Fifo.is_seat g.Q.Fifo.known g.Q.Fifo.pop_cause

pub returns-clause-ended : goal.returns-clause-ended
returns-clause-ended g c = ends_empty
