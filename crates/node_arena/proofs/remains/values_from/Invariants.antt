use Rattle.std.proofs.Common.{◌-◌, length, vec_len, vec_capacity}
use Rattle.std.specs.Slots.{slots_items}
use Rattle.node_arena.specs.Places.{shared_words}
use Rattle.node_arena.proofs.Lefts.{Walks}
use Rattle.node_arena.proofs.remains.values_from.Given as goal

abbrev pub invariant-loop-node : goal.invariant-loop-node
invariant-loop-node g l = Walks g.row.B (shared_words (slots_items l.closed.words)) l.fn.first l.node l.values.items (vec_len l.values) (vec_capacity l.values)

abbrev pub decreases-loop-node : goal.decreases-loop-node
decreases-loop-node g l = length (shared_words (slots_items l.closed.words)) - vec_len l.values
