use Rattle.stress.specs.Fresh.{IsFresh}
use Rattle.stress.proofs.free_nodes.takes.Given as goal

abbrev pub invariant-loop : goal.invariant-loop
invariant-loop l = IsFresh l.arena l.seat
