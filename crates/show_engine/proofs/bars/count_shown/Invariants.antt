use Rattle.std.proofs.Common.{◌≡◌, take}
use Rattle.std.specs.Prelude.{count_by}
use Rattle.show_engine.specs.Scales.{is_shown}
use Rattle.show_engine.proofs.bars.count_shown.Given as goal

-- how many of the operations so far are shown
abbrev pub invariant-loop-operation : goal.invariant-loop-operation
invariant-loop-operation l = l.count ≡ count_by (is_shown l.scale) (take l.operation-index l.history)
