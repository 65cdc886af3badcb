use Rattle.free_list.specs.Gives.{Giving}
use Rattle.free_list.proofs.gives.give_within.Given as goal

abbrev pub invariant-loop-index : goal.invariant-loop-index
invariant-loop-index g l = Giving l.arena l.initial.seat l.seat l.held l.index
