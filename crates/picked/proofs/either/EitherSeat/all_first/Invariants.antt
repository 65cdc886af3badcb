use Rattle.std.proofs.Common.{◌≡◌, ◌+◌, ◌≤◌, map, length, vec_len, vec_capacity}
use Rattle.picked.specs.Either.{as_first}
use Rattle.picked.proofs.either.EitherSeat.all_first.Given as goal

abbrev pub invariant-loop-seat : goal.invariant-loop-seat
invariant-loop-seat g l = record {
  those : l.list.items ≡ map as_first l.yielded;
  room : vec_len l.list + length l.seat-iterator.rest.items ≤ vec_capacity l.list;
}
