use Rattle.std.proofs.Common.{◌≡◌, ◌+◌, ◌≤◌, length, vec_capacity}
use Rattle.ring_queue.specs.NewRings.{IsKeeper, AreFresh}
use Rattle.ring_queue.proofs.new_seats.deal_all.Given as goal

abbrev pub invariant-loop-i : goal.invariant-loop-i
invariant-loop-i g l =
    IsKeeper l.plan l.table.shared.table_id l.keeper (l.i + 1) × (length l.seats.items ≡ l.i) × AreFresh l.plan l.table.shared.table_id l.seats.items × (length l.plan.roles ≤ vec_capacity l.seats)
