use Rattle.two_lock.specs.Shuts.{Trying}
use Rattle.two_lock.proofs.shuts.shut_queue.Given as goal

abbrev pub invariant-loop-index : goal.invariant-loop-index
invariant-loop-index g l = Trying l.arena l.fn.seat l.seat l.index
