use Rattle.std.proofs.Common.{◌+◌, ◌≤◌, length, vec_len, vec_capacity}
use Rattle.std.specs.List.{All}
use Rattle.picked.specs.EitherEnds.{AreTaken}
use Rattle.picked.proofs.either_seats.taken_out.Given as goal

abbrev pub invariant-loop-seat : goal.invariant-loop-seat
invariant-loop-seat g l = record {
  those : AreTaken (goal.F-post g l.take) l.yielded l.room.items;
  each : All (goal.F-pre g l.take) l.seat-iterator.rest.items;
  room : vec_len l.room + length l.seat-iterator.rest.items ≤ vec_capacity l.room;
}
