use Rattle.two_lock.specs.Pops.{Trying}
use Rattle.two_lock.proofs.pops.pop_with_empty_pocket.Given as goal

abbrev pub invariant-loop-index : goal.invariant-loop-index
invariant-loop-index g l = Trying l.arena l.fn.seat l.seat l.index
