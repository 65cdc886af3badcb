use Rattle.std.proofs.Common.{take}
use Rattle.std.specs.List.{All}
use Rattle.placing.specs.Reasons.{IsPushIfEnded}
use Rattle.placing.proofs.stuck.first_other.Given as goal

abbrev pub invariant-loop-index : goal.invariant-loop-index
invariant-loop-index l = All IsPushIfEnded (take l.index l.history)
