use Rattle.std.proofs.Common.{◌≡◌, max, drop}
use Rattle.show_engine.specs.Scales.{end_of_history}
use Rattle.show_engine.proofs.scales.end_of_history.Given as goal

-- the greatest number so far, and that of the other operations
abbrev pub invariant-loop-operation : goal.invariant-loop-operation
invariant-loop-operation l = end_of_history l.history ≡ max l.last (end_of_history (drop l.operation-index l.history))
