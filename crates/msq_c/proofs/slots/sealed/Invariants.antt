use Rattle.std.proofs.Common.{◌≡◌, ◌+◌, ◌≤◌, map, length, vec_len, vec_capacity}
use Rattle.std.specs.Prelude.{true}
use Rattle.std.specs.List.{All}
use Rattle.msq_c.proofs.slots.sealed.Given as goal

abbrev pub invariant-loop-boxed : goal.invariant-loop-boxed
invariant-loop-boxed g l = record {
  those : map g.H.Slot.own l.handles.items ≡ map (λ b. b.value) l.yielded;
  full : All (λ h. g.H.Slot.holds h ≡ true) l.handles.items;
  count : length l.handles.items ≡ length l.yielded;
  room : vec_len l.handles + length l.boxed-iterator.rest.items ≤ vec_capacity l.handles;
}
