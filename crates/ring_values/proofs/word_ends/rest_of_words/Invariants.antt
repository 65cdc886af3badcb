use Rattle.std.proofs.Common.{◌≡◌, ◌+◌, ◌*◌, ◌≤◌, ◌++◌, length, drop, vec_len, vec_capacity}
use Rattle.history.specs.Rests.{left_of}
use Rattle.ring_values.specs.WordQueues.{joined}
use Rattle.ring_values.proofs.word_ends.rest_of_words.Given as goal

abbrev pub invariant-loop-number : goal.invariant-loop-number
invariant-loop-number g l = record {
  so_far : l.values.items ++ joined g.row.K (left_of l.rest) (drop l.at l.words.items) ≡ joined g.row.K (left_of l.fn.rest) l.words.items;
  same : length l.words.items ≡ l.at + length (left_of l.rest) * g.row.K;
  room : vec_len l.values + length (left_of l.rest) ≤ vec_capacity l.values;
}

abbrev pub decreases-loop-number : goal.decreases-loop-number
decreases-loop-number g l = length (left_of l.rest)
