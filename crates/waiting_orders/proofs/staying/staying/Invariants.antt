use Rattle.std.proofs.Common.{◌≡◌, take}
use Rattle.std.specs.List.{filter}
use Rattle.waiting_orders.specs.Nodes.{began_by}
use Rattle.waiting_orders.proofs.staying.staying.Given as goal

abbrev pub invariant-loop-place : goal.invariant-loop-place
invariant-loop-place l = l.kept.items ≡ filter (began_by l.pushes l.limit) (take l.place-index l.places)
