use Rattle.std.proofs.Common.{[], ◌≡◌, ◌+◌, ◌<◌, ℕ}
use Rattle.node_arena.specs.Seats.{IsSeat, IsReady, HasNoSlot, setup_of, plan_of}
use Rattle.node_arena.specs.Beside.{with_tries}
use Rattle.node_arena.specs.Hands.{KeepsKnown, AllTaken, HasTried, tries_of, first_slot}
use Rattle.node_arena.proofs.Handing.{slot_on}
use Rattle.node_arena.proofs.arena.ArenaOf.get_slot.Given as goal

abbrev pub invariant-loop-failed : goal.invariant-loop-failed
invariant-loop-failed g l =
    (l.slot < (setup_of l.self).size)
    × IsSeat l.self l.seat
    × HasNoSlot l.seat
    × (IsReady l.self l.initial.seat → IsReady l.self l.seat)
    × KeepsKnown l.initial.seat l.seat
    × (l.seat.token.me.0 ≡ with_tries l.initial.seat.token.me.0 (tries_of l.seat))
    × ((m : ℕ) → AllTaken (plan_of l.self) l.initial.seat.token.me.0 l.slot m → AllTaken (plan_of l.self) l.initial.seat.token.me.0 (first_slot (setup_of l.self).size l.node) (l.failed + m))
    × (slot_on (setup_of l.self).size (first_slot (setup_of l.self).size l.node) l.failed ≡ l.slot)
    × HasTried (plan_of l.self) l.initial.seat l.seat (first_slot (setup_of l.self).size l.node) l.failed []
