use Rattle.std.proofs.Common.{◌≡◌, ◌+◌, ◌≤◌, map, length, vec_len, vec_capacity}
use Rattle.msq_c.specs.Ends.{AreFull, owned_at}
use Rattle.msq_c.proofs.ends.take_all.Given as goal

abbrev pub invariant-loop-handle : goal.invariant-loop-handle
invariant-loop-handle l = record {
  those : l.owned.items ≡ map owned_at l.yielded;
  full : AreFull l.handle-iterator.rest.items;
  room : vec_len l.owned + length l.handle-iterator.rest.items ≤ vec_capacity l.owned;
}
