use Rattle.std.proofs.Common.{◌≡◌, not, take}
use Rattle.std.specs.List.{filter}
use Rattle.waiting_orders.specs.Indexed.{indexed}
use Rattle.waiting_orders.specs.Waiting.{waits}
use Rattle.waiting_orders.proofs.boards.Calls.of.Given as goal

abbrev pub invariant-loop-index : goal.invariant-loop-index
invariant-loop-index l =
    (l.others.items ≡ filter (λ o. not (waits o)) (indexed 0 (take l.index l.history)))
    × (l.pushes.items ≡ filter waits (indexed 0 (take l.index l.history)))
