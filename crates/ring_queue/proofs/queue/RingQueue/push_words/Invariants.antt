use Rattle.std.proofs.Common.{◌+◌, ◌≤◌}
use Rattle.history.specs.Answers.{SeesMore}
use Rattle.ring_queue.specs.Seats.{IsAtRest, KeepsName, KeepsSlots, known_of}
use Rattle.ring_queue.specs.Turns.{Tried}
use Rattle.ring_queue.proofs.queue.RingQueue.push_words.Given as goal

abbrev pub invariant-loop : goal.invariant-loop
invariant-loop g l =
    IsAtRest l.self.plan l.self.table.shared.table_id l.seat × KeepsName l.fn.seat l.seat × SeesMore (known_of l.fn.seat) (known_of l.seat) × KeepsSlots l.fn.seat l.seat
    × (l.initial.seat.tail + l.counter ≤ l.seat.tail) × Tried l.fn.seat l.seat l.counter
