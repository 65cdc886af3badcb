use Rattle.std.proofs.Common.{take}
use Rattle.placing.proofs.Pushed.{ArePushed}
use Rattle.placing.proofs.known.pushed_again.Given as goal

abbrev pub invariant-loop-operation : goal.invariant-loop-operation
invariant-loop-operation l = ArePushed l.seen l.again (take l.operation-index l.history)
