use Rattle.std.proofs.Common.{take}
use Rattle.placing.specs.Seen.{HasAllTold}
use Rattle.placing.proofs.known.told_in.Given as goal

abbrev pub invariant-loop-operation : goal.invariant-loop-operation
invariant-loop-operation l = HasAllTold (take l.operation-index l.history) l.values
