use Rattle.std.proofs.Common.{take}
use Rattle.waiting_orders.specs.Lines.{IsLimit, picked}
use Rattle.waiting_orders.proofs.lines.Rest.kept_limit.Given as goal

abbrev pub invariant-loop-at : goal.invariant-loop-at
invariant-loop-at l = IsLimit (picked l.operations (take l.at l.self.kept.items)) l.limit
