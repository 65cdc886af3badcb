use Rattle.std.proofs.Common.{take}
use Rattle.std.specs.List.{AllByRecursion}
use Rattle.waiting_orders.specs.Alone.{EndsLater}
use Rattle.waiting_orders.proofs.ending.none_sooner.Given as goal

abbrev pub invariant-loop-place : goal.invariant-loop-place
invariant-loop-place l = AllByRecursion (EndsLater l.value l.last) (take l.place l.operations)
