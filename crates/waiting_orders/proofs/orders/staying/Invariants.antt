use Rattle.std.proofs.Common.{◌≡◌, is_some, take}
use Rattle.std.specs.List.{filter}
use Rattle.waiting_orders.specs.Lines.{picked}
use Rattle.waiting_orders.proofs.orders.staying.Given as goal

abbrev pub invariant-loop-at : goal.invariant-loop-at
invariant-loop-at l = l.staying.items ≡ filter (λ p. is_some p.last) (picked l.pushes (take l.at l.places.items))
