use Rattle.std.proofs.Common.{◌≡◌, ◌+◌, drop}
use Rattle.history.specs.History as rule
use Rattle.history.proofs.checks.index_by_point.Given as goal

abbrev pub invariant-loop-operation : goal.invariant-loop-operation
invariant-loop-operation l =
    (l.place ≡ l.operation-index + 1) ×
    (rule.index_by_point l.at 1 l.history ≡ rule.index_by_point l.at l.place (drop l.operation-index l.history))
