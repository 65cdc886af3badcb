use Rattle.std.proofs.Common.{◌≡◌, ◌-◌, ◌^◌, drop}
use Rattle.show_engine.specs.Reasons.{earliest}
use Rattle.show_engine.proofs.beside.earliest.Given as goal

-- the least number so far, and those of the other operations
abbrev pub invariant-loop-operation : goal.invariant-loop-operation
invariant-loop-operation l = earliest (2 ^ 64 - 1) l.operations ≡ earliest l.least (drop l.operation-index l.operations)
