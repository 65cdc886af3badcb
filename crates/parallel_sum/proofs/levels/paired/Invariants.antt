use Rattle.std.specs.Prelude.{◌≡◌, ◌+◌, ◌*◌, ◌<◌, ◌≤◌, length, sum, sum_by}
use Rattle.parallel_sum.specs.Sums.{sum_in}
use Rattle.parallel_sum.proofs.levels.paired.Given as goal

abbrev pub invariant-loop-one : goal.invariant-loop-one
invariant-loop-one l = record {
  sum : sum_by sum_in l.pairs.items + sum l.rest.rest.items ≡ sum l.fn.numbers.items;
  half : 2 * length l.pairs.items + length l.rest.rest.items ≤ length l.fn.numbers.items + 1;
  even : 0 < length l.rest.rest.items → 2 * length l.pairs.items + length l.rest.rest.items ≡ length l.fn.numbers.items;
}

abbrev pub decreases-loop-one : goal.decreases-loop-one
decreases-loop-one l = length l.rest.rest.items
