use Rattle.std.proofs.Common.{◌-◌, drop, length}
use Rattle.waiting_orders.specs.Listed.{due_front, due_later}
use Rattle.waiting_orders.proofs.Listing.{Putting}
use Rattle.waiting_orders.proofs.orders.Listing.put_due.Given as goal

abbrev pub invariant-loop-self : goal.invariant-loop-self
invariant-loop-self l =
    Putting (due_front l.time (drop l.initial.self.next l.pushes)) (due_later l.time (drop l.initial.self.next l.pushes)) l.initial.self
    (due_front l.time (drop l.self.next l.pushes)) (due_later l.time (drop l.self.next l.pushes)) l.self

abbrev pub decreases-loop-self : goal.decreases-loop-self
decreases-loop-self l = length l.pushes - l.self.next
