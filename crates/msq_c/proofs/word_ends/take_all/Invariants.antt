use Rattle.std.proofs.Common.{◌≡◌, ◌+◌, ◌≤◌, map, length, vec_len, vec_capacity}
use Rattle.msq_c.specs.WordEnds.{AreFull, owned_at}
use Rattle.msq_c.proofs.word_ends.take_all.Given as goal

abbrev pub invariant-loop-handle : goal.invariant-loop-handle
invariant-loop-handle g l = record {
  those : l.owned.items ≡ map (owned_at g.H.Slot.own) l.yielded;
  full : AreFull g.H.Slot.holds l.handle-iterator.rest.items;
  room : vec_len l.owned + length l.handle-iterator.rest.items ≤ vec_capacity l.owned;
}
