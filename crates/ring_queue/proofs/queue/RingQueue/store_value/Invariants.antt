use Rattle.std.proofs.Common.{◌≡◌, [], ◌∷◌, Option}
use Rattle.history.specs.declared.operations.Taken.{Taken}
use Rattle.ring_queue.specs.Knowledge.{claimed}
use Rattle.ring_queue.specs.Placed.{storing}
use Rattle.ring_queue.specs.PlacedSeats.{hand_of, said_by}
use Rattle.ring_queue.specs.Seats.{KeepsName, KeepsSlots, Sits, view}
use Rattle.ring_queue.proofs.queue.RingQueue.store_value.Given as goal

abbrev pub invariant-loop-part : goal.invariant-loop-part
invariant-loop-part g l = record {
  sits : Sits l.self.plan l.self.table.shared.table_id l.seat;
  slots : KeepsSlots l.fn.seat l.seat;
  name : KeepsName l.fn.seat l.seat;
  head : l.seat.head ≡ l.fn.seat.head;
  tail : l.seat.tail ≡ l.fn.seat.tail;
  known : view l.seat ≡ view l.fn.seat;
  said : said_by l.seat ≡ said_by l.fn.seat;
  claimed : (x : Option Taken) × ((view l.seat).stage ≡ claimed l.place (x ∷ []));
  due : hand_of l.seat ≡ storing l.value l.part;
}

abbrev pub ghost-store_part : goal.ghost-store_part
ghost-store_part g a = (a.value.now, a.part)
