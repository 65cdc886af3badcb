use Rattle.std.proofs.Common.{◌+◌, ◌≤◌}
use Rattle.history.specs.Answers.{SeesMore}
use Rattle.ring_queue.specs.Seats.{IsReady, KeepsName, known_of}
use Rattle.ring_queue.specs.Turns.{Tried}
use Rattle.ring_queue.proofs.queue.RingQueue.try_push_all.Given as goal

abbrev pub invariant-loop : goal.invariant-loop
invariant-loop g l = record {
  seat : IsReady l.self.plan l.self.table.shared.table_id l.seat;
  name : KeepsName l.fn.seat l.seat;
  sees : SeesMore (known_of l.fn.seat) (known_of l.seat);
  raised : l.initial.seat.tail + l.counter ≤ l.seat.tail;
  tried : Tried l.fn.seat l.seat l.counter;
}
