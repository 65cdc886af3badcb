use Rattle.std.proofs.Common.{take}
use Rattle.std.specs.List.{AllZip}
use Rattle.placing.specs.SpreadStamps.{IsPointed}
use Rattle.placing.proofs.spread_stamps.pointed.Given as goal

abbrev pub invariant-loop-index : goal.invariant-loop-index
invariant-loop-index l = AllZip IsPointed (take l.index l.history) l.pointed.items
