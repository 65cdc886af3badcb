use Rattle.std.specs.List.{All}
use Rattle.placing.specs.Reasons.{IsPlace}
use Rattle.placing.proofs.Whole.{AreOthers}
use Rattle.placing.proofs.stuck.whole.Given as goal

abbrev pub invariant-loop-index : goal.invariant-loop-index
invariant-loop-index l = All (IsPlace l.history) l.others.items × AreOthers l.at l.index l.others.items
