use Rattle.std.proofs.Common.{◌≡◌, filter, map, is_some, take}
use Rattle.history.specs.Tables.{shown, numbered}
use Rattle.report.proofs.place_order.placed_of.Given as goal

abbrev pub invariant-loop-operation : goal.invariant-loop-operation
invariant-loop-operation l =
    map shown l.placed.items ≡ map numbered (filter (λ o. is_some o.at) (take l.operation-index l.history))
