use Rattle.std.proofs.Common.{◌≡◌, length}
use Rattle.history.specs.Answers.{SeesMore}
use Rattle.ring_queue.specs.Seats.{IsAtRest, KeepsName, KeepsSlots, known_of, view}
use Rattle.ring_queue.specs.Turns.{HaveFailed, Tried}
use Rattle.ring_queue.proofs.queue.RingQueue.pop_words.Given as goal

abbrev pub invariant-loop : goal.invariant-loop
invariant-loop g l =
    IsAtRest l.self.plan l.self.table.shared.table_id l.seat × KeepsName l.fn.seat l.seat × SeesMore (known_of l.fn.seat) (known_of l.seat) × KeepsSlots l.fn.seat l.seat
    × HaveFailed l.self.plan (view l.initial.seat).seen l.initial.seat.head l.counter l.seat
    × Tried l.fn.seat l.seat l.counter × (length l.value ≡ length l.fn.value)
