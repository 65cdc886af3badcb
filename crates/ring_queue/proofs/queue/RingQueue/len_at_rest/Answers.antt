use Rattle.std.proofs.Common.{◌-◌, ap, ◌∙◌}
use Rattle.ring_queue.specs.Seats.{known_of}
use Rattle.ring_queue.proofs.Bounds.{so_long}
use Rattle.ring_queue.proofs.Moved.{stays_on}
use Rattle.ring_queue.proofs.queue.RingQueue.len_at_rest.Goals as goal

pub returns-clause-long : goal.returns-clause-long
returns-clause-long g c =
    let first = c.look_at_head.ensures in
    let tail = c.see_tail.ensures in
    let last = c.look_at_head-2.ensures in
    let there = last.tail ∙ tail.tail in
    so_long c.args.self.now.plan (known_of c.args.seat.now) (known_of c.look_at_head.new.seat) (known_of c.see_tail.new.seat) c.see_tail.result c.look_at_head.new.seat.head
    first.sees first.counts tail.sees tail.holds (known_of c.look_at_head-2.new.seat) c.look_at_head-2.new.seat.head _ last.sees last.counts
    (c.saturating_sub.ensures ∙ ap (λ x. x - c.look_at_head-2.new.seat.head) there) (ap (λ x. x - c.look_at_head.new.seat.head) there)

pub returns-clause-slots : goal.returns-clause-slots
returns-clause-slots g c =
    stays_on c.args.seat.now c.see_tail.new.seat c.look_at_head-2.new.seat
    (stays_on c.args.seat.now c.look_at_head.new.seat c.see_tail.new.seat c.look_at_head.ensures.slots c.see_tail.ensures.slots) c.look_at_head-2.ensures.slots
