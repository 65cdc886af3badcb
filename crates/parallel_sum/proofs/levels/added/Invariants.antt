use Rattle.std.specs.Prelude.{◌≡◌, ◌++◌, map, Ok}
use Rattle.parallel_sum.proofs.levels.added.Given as goal

abbrev pub invariant-loop-answer : goal.invariant-loop-answer
invariant-loop-answer l = map (λ sum. Ok sum) l.sums.items ++ l.answer-iterator.rest.items ≡ l.fn.answers.items
