use Rattle.std.proofs.Common.{◌≡◌, nat_lt, take, sum_by}
use Rattle.std.specs.List.{count_by}
use Rattle.history.specs.Entries.{is_shut}
use Rattle.node_arena.specs.declared.seats.Seat.{Seat}
use Rattle.node_arena.specs.Seats.{view}
use Rattle.node_arena.proofs.ends.shut_by.Given as goal

abbrev pub invariant-loop-seat : goal.invariant-loop-seat
invariant-loop-seat g l = l.shut ≡ nat_lt 0 (sum_by (λ (s : Seat _). count_by is_shut (view s).mine) (take l.seat-index l.seats))
