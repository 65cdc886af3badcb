use Rattle.std.specs.Prelude.{◌≡◌, length, sum}
use Rattle.parallel_sum.proofs.levels.total.Given as goal

abbrev pub invariant-loop-alloc : goal.invariant-loop-alloc
invariant-loop-alloc g l = sum l.numbers.items ≡ sum l.initial.numbers.items

abbrev pub decreases-loop-alloc : goal.decreases-loop-alloc
decreases-loop-alloc g l = length l.numbers.items
