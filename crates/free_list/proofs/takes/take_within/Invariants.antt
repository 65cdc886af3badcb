use Rattle.free_list.specs.Takes.{Trying}
use Rattle.free_list.proofs.takes.take_within.Given as goal

abbrev pub invariant-loop-index : goal.invariant-loop-index
invariant-loop-index g l = Trying l.arena l.initial.seat l.seat l.index
