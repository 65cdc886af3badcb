use Rattle.std.proofs.Common.{◌≡◌, take}
use Rattle.waiting_orders.specs.Indexed.{places_of}
use Rattle.waiting_orders.proofs.searching.places.Given as goal

abbrev pub invariant-loop-operation : goal.invariant-loop-operation
invariant-loop-operation l = l.places.items ≡ places_of (take l.operation-index l.operations)
