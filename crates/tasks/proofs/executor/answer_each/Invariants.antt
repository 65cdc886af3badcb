use Rattle.std.specs.Prelude.{◌≡◌, ◌+◌, ◌≤◌, ◌++◌, length, vec_len, vec_capacity}
use Rattle.tasks.specs.Settled.{AreSettled}
use Rattle.tasks.proofs.executor.answer_each.Given as goal

abbrev pub invariant-loop-outcome : goal.invariant-loop-outcome
invariant-loop-outcome g l = record {
  all : l.yielded ++ l.outcome-iterator.rest.items ≡ l.fn.outcomes.items;
  settled : AreSettled g.T.Task.answers l.yielded l.answers.items;
  room : vec_len l.answers + length l.outcome-iterator.rest.items ≤ vec_capacity l.answers;
}
