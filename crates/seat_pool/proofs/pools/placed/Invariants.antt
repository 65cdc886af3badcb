use Rattle.std.proofs.Common.{◌≡◌, ◌+◌, ◌≤◌, map, length, vec_len, vec_capacity, Some}
use Rattle.seat_pool.proofs.pools.placed.Given as goal

abbrev pub invariant-loop-seat : goal.invariant-loop-seat
invariant-loop-seat g l = record {
  those : l.slots.items ≡ map Some l.yielded;
  room : vec_len l.slots + length l.seat-iterator.rest.items ≤ vec_capacity l.slots;
}
