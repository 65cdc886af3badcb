use Rattle.two_lock.specs.Pushes.{Trying}
use Rattle.two_lock.proofs.pushes.push_node.Given as goal

abbrev pub invariant-loop-index : goal.invariant-loop-index
invariant-loop-index g l = Trying l.arena l.fn.seat l.seat l.held l.val l.spent l.index
