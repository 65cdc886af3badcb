use Rattle.std.proofs.Common.{◌+◌, take, ap, sym, ◌∙◌, arith}
use Rattle.ring_queue.specs.Knowledge.{SeatView}
use Rattle.ring_queue.specs.PlacedSeats.{hand_of}
use Rattle.ring_queue.proofs.Moved.{stays_on}
use Rattle.ring_queue.proofs.PlacedTurns.{has_read, read_all}
use Rattle.ring_queue.proofs.queue.RingQueue.load_value.Goals as goal

pub loop-part-preserved : goal.loop-part-preserved
loop-part-preserved g c =
    let before = c.loop-part.invariant in
    let now = c.load_part.ensures in record {
      ready = now.seat;
      slots = stays_on c.args.seat.now c.loop-part.seat c.load_part.new.seat before.slots now.slots;
      name = record { number = now.name.number ∙ before.name.number; role = now.name.role ∙ before.name.role };
      head = now.head ∙ before.head;
      known = now.known ∙ before.known;
      said = now.said ∙ before.said;
      found = (before.found.0, ap (λ (v : SeatView). v.stage) now.known ∙ before.found.1);
      wide = now.wide ∙ before.wide;
      read = has_read (hand_of c.load_part.new.seat) (take (c.loop-part.part + 1) c.load_part.new.value) now.loaded;
    }

pub returns-clause-loaded : goal.returns-clause-loaded
returns-clause-loaded g c =
    let over = c.loop-part-test.false in
    let wide = c.loop-part.invariant.wide in
    let some = c.args.self.now.laid.planned.in_places c.requires.placed in
    read_all (hand_of c.loop-part.seat) c.loop-part.value c.loop-part.part c.loop-part.invariant.read (omega (arith, over, wide, c.requires.wide)) (omega (arith, wide, some))

pub returns-clause-wide : goal.returns-clause-wide
returns-clause-wide g c = c.loop-part.invariant.wide ∙ sym c.requires.wide
