use Rattle.std.proofs.Common.{◌≤◌, ◌*◌, All, length, take}
use Rattle.placing.specs.SpreadStamps.{IsOfNumbers}
use Rattle.placing.proofs.spread_stamps.used.Given as goal

abbrev pub invariant-loop-operation : goal.invariant-loop-operation
invariant-loop-operation l =
    All (IsOfNumbers l.numbers.items) (take l.operation-index l.history) × (length l.numbers.items ≤ 2 * l.operation-index)
