use Rattle.std.proofs.Common.{◌+◌, ◌^◌, ap, ◌∙◌, arith}
use Rattle.ring_queue.specs.Seats.{known_of}
use Rattle.ring_queue.proofs.Bounds.{empty_found, shut_empty_found, holds_found}
use Rattle.ring_queue.proofs.Moved.{stays_on}
use Rattle.ring_queue.proofs.queue.RingQueue.emptiness_in.Goals as goal

pub returns-then-tail-seat-clause-found : goal.returns-then-tail-seat-clause-found
returns-then-tail-seat-clause-found g c =
    let first = c.look_at_head.ensures in
    let tail = c.see_tail-tail.ensures in
    empty_found c.args.self.now.plan (known_of c.args.seat.now) (known_of c.look_at_head.new.seat) (known_of c.see_tail-tail.new.seat) c.see_tail-tail.result c.look_at_head.new.seat.head
    first.sees first.counts tail.sees tail.holds first.seat.sits.below (c.if-tail-seat.true ∙ tail.head)

pub returns-then-tail-seat-2-clause-found : goal.returns-then-tail-seat-2-clause-found
returns-then-tail-seat-2-clause-found g c =
    let first = c.look_at_head.ensures in
    let tail = c.see_tail-tail.ensures in
    shut_empty_found c.args.self.now.plan (known_of c.args.seat.now) (known_of c.look_at_head.new.seat) (known_of c.see_tail-tail.new.seat) c.see_tail-tail.result c.look_at_head.new.seat.head
    first.sees first.counts tail.sees tail.holds first.seat.sits.below (c.if-tail-seat-2.true ∙ ap (λ h. h + 2 ^ 62) tail.head)

pub returns-then-tail-seat-clause-slots : goal.returns-then-tail-seat-clause-slots
returns-then-tail-seat-clause-slots g c = stays_on c.args.seat.now c.look_at_head.new.seat c.see_tail-tail.new.seat c.look_at_head.ensures.slots c.see_tail-tail.ensures.slots

pub returns-then-tail-seat-2-clause-slots : goal.returns-then-tail-seat-2-clause-slots
returns-then-tail-seat-2-clause-slots g c = stays_on c.args.seat.now c.look_at_head.new.seat c.see_tail-tail.new.seat c.look_at_head.ensures.slots c.see_tail-tail.ensures.slots

pub returns-clause-slots : goal.returns-clause-slots
returns-clause-slots g c =
    stays_on c.args.seat.now c.see_tail-tail.new.seat c.look_at_head-2.new.seat
    (stays_on c.args.seat.now c.look_at_head.new.seat c.see_tail-tail.new.seat c.look_at_head.ensures.slots c.see_tail-tail.ensures.slots) c.look_at_head-2.ensures.slots

pub returns-clause-found : goal.returns-clause-found
returns-clause-found g c =
    let first = c.look_at_head.ensures in
    let tail = c.see_tail-tail.ensures in
    let last = c.look_at_head-2.ensures in
    let below = c.if-places-seat.false in
    holds_found c.args.self.now.plan (known_of c.args.seat.now) (known_of c.look_at_head.new.seat) (known_of c.see_tail-tail.new.seat) c.see_tail-tail.result c.look_at_head.new.seat.head
    first.sees first.counts tail.sees tail.holds (known_of c.look_at_head-2.new.seat) last.sees (last.some (omega (arith, below)))
