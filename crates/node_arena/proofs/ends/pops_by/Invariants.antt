use Rattle.std.proofs.Common.{◌≡◌, ◌*◌, ◌≤◌, take, sum_by}
use Rattle.node_arena.specs.declared.seats.Seat.{Seat}
use Rattle.node_arena.proofs.ends.pops_by.Given as goal

abbrev pub invariant-loop-seat : goal.invariant-loop-seat
invariant-loop-seat g l = record {
  sum : l.pops ≡ sum_by (λ (s : Seat _). s.pops) (take l.seat-index l.seats);
  few : l.pops ≤ 18446744073709551615 * l.seat-index;
}
