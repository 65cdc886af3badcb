use Rattle.std.proofs.Common.{◌≡◌, ◌+◌, ◌≤◌, map, length, vec_len, vec_capacity}
use Rattle.seat_pool.proofs.ends.bare.Given as goal

abbrev pub invariant-loop-held : goal.invariant-loop-held
invariant-loop-held g l = record {
  those : l.seats.items ≡ map (λ h. h.seat) l.yielded;
  room : vec_len l.seats + length l.held-iterator.rest.items ≤ vec_capacity l.seats;
}
