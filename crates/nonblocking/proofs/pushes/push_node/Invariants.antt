use Rattle.nonblocking.specs.Pushes.{Trying, registers_of}
use Rattle.nonblocking.proofs.pushes.push_node.Given as goal

abbrev pub invariant-loop-index : goal.invariant-loop-index
invariant-loop-index g l = Trying l.arena l.fn.seat l.seat (registers_of l.filled l.val) l.spent l.index
