use Rattle.std.proofs.Common.{◌≡◌, ◌+◌, ◌≤◌, ◌++◌, map, length, vec_len, vec_capacity}
use Rattle.node_arena.specs.Leftovers.{values_in}
use Rattle.value_queue.specs.Runs.{as_item}
use Rattle.value_queue.proofs.ends.rest_of.Given as goal

abbrev pub invariant-loop-front : goal.invariant-loop-front
invariant-loop-front g l = record {
  so_far : l.values.items ++ map as_item (values_in l.left) ≡ map as_item (values_in l.initial.left);
  room : vec_len l.values + length (values_in l.left) ≤ vec_capacity l.values;
}

abbrev pub decreases-loop-front : goal.decreases-loop-front
decreases-loop-front g l = length (values_in l.left)
