use Rattle.std.proofs.Common.{◌≡◌, ◌≤◌, ◌-◌, ◌++◌, drop}
use Rattle.waiting_orders.specs.Listed.{order_of}
use Rattle.waiting_orders.proofs.orders.listed.Given as goal

abbrev pub invariant-loop-went : goal.invariant-loop-went
invariant-loop-went l =
    (l.order.operations.items ++ order_of (drop l.went-index l.walk) (l.order.next - l.order.taken) (drop l.order.next l.pushes) ≡ order_of l.walk 0 l.pushes)
    × (l.order.taken ≤ l.order.next)
