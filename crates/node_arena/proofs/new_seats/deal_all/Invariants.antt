use Rattle.std.proofs.Common.{◌≡◌, ◌+◌, ◌≤◌, length, vec_capacity}
use Rattle.node_arena.specs.NewArenas.{IsKeeper, AreDealt}
use Rattle.node_arena.proofs.new_seats.deal_all.Given as goal

abbrev pub invariant-loop-i : goal.invariant-loop-i
invariant-loop-i g l =
    IsKeeper l.table.shared.table_id l.keeper (l.i + 1) × (length l.seats.items ≡ l.i) × AreDealt l.plan l.table.shared.table_id l.seats.items × (length l.plan.roles ≤ vec_capacity l.seats)
