use Rattle.std.proofs.Common.{take}
use Rattle.std.specs.List.{All}
use Rattle.placing.specs.Faults.{IsFaultless}
use Rattle.placing.proofs.kinds.first_fault.Given as goal

abbrev pub invariant-loop-index : goal.invariant-loop-index
invariant-loop-index l = All IsFaultless (take l.index l.history)
