use Rattle.std.proofs.Common.{[], ◌≡◌, ◌+◌, ◌<◌, ℕ}
use Rattle.ring_queue.specs.Seats.{IsReady, HasNoSlot}
use Rattle.ring_queue.specs.Hands.{KeepsKnown, AllTaken, HasTried}
use Rattle.ring_queue.proofs.Handing.{slot_on}
use Rattle.ring_queue.proofs.queue.RingQueue.find_slot.Given as goal

abbrev pub invariant-loop-failed : goal.invariant-loop-failed
invariant-loop-failed g l = record {
  there : l.slot < l.self.plan.slots;
  ready : IsReady l.self.plan l.self.table.shared.table_id l.seat;
  none : HasNoSlot l.seat;
  keeps : KeepsKnown l.initial.seat l.seat;
  same : l.seat.token.me.0.plain ≡ l.initial.seat.token.me.0.plain;
  slot : slot_on l.self.plan l.first l.failed ≡ l.slot;
  tried : HasTried l.self.plan l.initial.seat l.seat l.first l.failed [];
  taken : (m : ℕ) → AllTaken l.self.plan l.initial.seat.token.me.0 l.slot m → AllTaken l.self.plan l.initial.seat.token.me.0 l.first (l.failed + m);
}
