use Rattle.std.proofs.Common.{ap, ◌∙◌}
use Rattle.ring_queue.specs.Knowledge.{SeatView}
use Rattle.ring_queue.proofs.Moved.{stays_on}
use Rattle.ring_queue.proofs.queue.RingQueue.store_value.Goals as goal

pub loop-part-preserved : goal.loop-part-preserved
loop-part-preserved g c =
    let before = c.loop-part.invariant in
    let now = c.store_part.ensures in record {
      sits = now.seat;
      slots = stays_on c.args.seat.now c.loop-part.seat c.store_part.new.seat before.slots now.slots;
      name = record { number = now.name.number ∙ before.name.number; role = now.name.role ∙ before.name.role };
      head = now.places.0 ∙ before.head;
      tail = now.places.1 ∙ before.tail;
      known = now.known ∙ before.known;
      said = now.said ∙ before.said;
      claimed = (before.claimed.0, ap (λ (v : SeatView). v.stage) now.known ∙ before.claimed.1);
      due = now.stored;
    }
