use Rattle.std.proofs.Common.{◌≡◌, ◌++◌, drop}
use Rattle.show_engine.specs.Pictures.{points_of}
use Rattle.show_engine.proofs.effects.points_of.Given as goal

-- the numbers so far, and those of the other operations
abbrev pub invariant-loop-operation : goal.invariant-loop-operation
invariant-loop-operation l = points_of l.operations ≡ l.points.items ++ points_of (drop l.operation-index l.operations)
