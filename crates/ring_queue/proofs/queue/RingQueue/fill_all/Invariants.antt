use Rattle.std.proofs.Common.{◌≡◌, ◌+◌, drop}
use Rattle.ring_queue.specs.Knowledge.{standing}
use Rattle.ring_queue.specs.Steps.{contents}
use Rattle.ring_queue.specs.Seats.{Sits, KeepsName, known_of, view}
use Rattle.ring_queue.proofs.queue.RingQueue.fill_all.Given as goal

abbrev pub invariant-loop-i : goal.invariant-loop-i
invariant-loop-i g l = record {
  sits : Sits l.self.plan l.self.table.shared.table_id l.seat;
  name : KeepsName l.fn.seat l.seat;
  places : (l.seat.head ≡ l.fn.seat.head) × (l.seat.tail ≡ l.fn.seat.tail);
  known : known_of l.seat ≡ known_of l.fn.seat;
  stage : (view l.seat).stage ≡ standing (l.place + l.i) (drop l.i (contents (known_of l.fn.seat).number l.bodies));
}
