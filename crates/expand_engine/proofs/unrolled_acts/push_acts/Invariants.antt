use Rattle.std.proofs.Common.{◌≡◌, ◌++◌, take}
use Rattle.expand_engine.proofs.unrolled_acts.push_acts.Given as goal

abbrev pub invariant-loop-act : goal.invariant-loop-act
invariant-loop-act l = l.acts.items ≡ l.fn.acts.items ++ take l.act-index l.more
