use Rattle.std.proofs.Common.{◌≡◌, ◌++◌, drop}
use Rattle.waiting_orders.specs.Listed.{merged}
use Rattle.waiting_orders.proofs.orders.merged.Given as goal

abbrev pub invariant-loop-at : goal.invariant-loop-at
invariant-loop-at l = l.order.operations.items ++ merged (drop l.order.next l.asides) (drop l.at l.list) ≡ merged l.asides l.list
