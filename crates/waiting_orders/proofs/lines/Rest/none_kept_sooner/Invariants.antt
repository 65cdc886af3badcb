use Rattle.std.proofs.Common.{take}
use Rattle.std.specs.List.{AllByRecursion}
use Rattle.waiting_orders.specs.Lines.{picked}
use Rattle.waiting_orders.specs.Alone.{EndsLater}
use Rattle.waiting_orders.proofs.lines.Rest.none_kept_sooner.Given as goal

abbrev pub invariant-loop-at : goal.invariant-loop-at
invariant-loop-at l = AllByRecursion (EndsLater l.value l.last) (picked l.operations (take l.at l.self.kept.items))
