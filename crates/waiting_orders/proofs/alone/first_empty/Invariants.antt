use Rattle.std.proofs.Common.{take}
use Rattle.std.specs.List.{AllByRecursion}
use Rattle.waiting_orders.specs.Alone.{BeginsLater}
use Rattle.waiting_orders.proofs.alone.first_empty.Given as goal

abbrev pub invariant-loop-at : goal.invariant-loop-at
invariant-loop-at l = AllByRecursion (BeginsLater l.first) (take l.at l.ways)
