use Rattle.std.proofs.Common.{◌≡◌, ◌++◌}
use Rattle.expand_engine.specs.UnrolledActs.{repeated}
use Rattle.expand_engine.proofs.unrolled_acts.push_repeated.Given as goal

abbrev pub invariant-loop : goal.invariant-loop
invariant-loop l = l.acts.items ≡ l.fn.acts.items ++ repeated l.counter l.body
