use Rattle.std.proofs.Common.{◌≡◌, ℕ, [], ◌∷◌, length, take}
use Rattle.ring_queue.specs.Knowledge.{found}
use Rattle.ring_queue.specs.Placed.{HasRead}
use Rattle.ring_queue.specs.PlacedSeats.{hand_of, said_by}
use Rattle.ring_queue.specs.Seats.{IsAtRest, KeepsName, KeepsSlots, view}
use Rattle.ring_queue.proofs.queue.RingQueue.load_value.Given as goal

abbrev pub invariant-loop-part : goal.invariant-loop-part
invariant-loop-part g l = record {
  ready : IsAtRest l.self.plan l.self.table.shared.table_id l.seat;
  slots : KeepsSlots l.fn.seat l.seat;
  name : KeepsName l.fn.seat l.seat;
  head : l.seat.head ≡ l.fn.seat.head;
  known : view l.seat ≡ view l.fn.seat;
  said : said_by l.seat ≡ said_by l.fn.seat;
  found : (word : ℕ) × ((view l.seat).stage ≡ found (word ∷ []));
  wide : length l.value ≡ l.self.plan.width;
  read : HasRead (hand_of l.seat) (take l.part l.value);
}

abbrev pub ghost-load_part : goal.ghost-load_part
ghost-load_part g a = take a.part a.value.now
