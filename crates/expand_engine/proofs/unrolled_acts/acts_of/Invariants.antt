use Rattle.std.proofs.Common.{◌≡◌, ◌+◌, ◌++◌, None, drop}
use Rattle.expand_engine.specs.UnrolledActs.{open_of, unrolled}
use Rattle.expand_engine.proofs.unrolled_acts.acts_of.Given as goal

abbrev pub invariant-loop-index : goal.invariant-loop-index
invariant-loop-index l = l.all.acts.items ++ unrolled (l.index + 1) (open_of l.all.times l.all.body.items) (drop l.index l.lines) ≡ unrolled 1 None l.lines
