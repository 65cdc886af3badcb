use Rattle.std.proofs.Common.{◌≡◌, ◌+◌, ◌≤◌, map, length, vec_len, vec_capacity}
use Rattle.owned.specs.Owned.{seat_of}
use Rattle.owned.proofs.ends.without_shares.Given as goal

abbrev pub invariant-loop-one : goal.invariant-loop-one
invariant-loop-one g l = record {
  those : l.seats.items ≡ map seat_of l.yielded;
  room : vec_len l.seats + length l.one-iterator.rest.items + 1 ≤ vec_capacity l.seats;
}
