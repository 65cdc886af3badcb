use Rattle.std.proofs.Common.{rules, ◌≡◌, ◌-◌, ◌∙◌}
use Rattle.ring_queue.specs.Plans.{Layout}
use Rattle.ring_queue.specs.Seats.{known_of}
use Rattle.ring_queue.proofs.Bounds.{left_by_tail}
use Rattle.ring_queue.proofs.queue.RingQueue.left_in.Goals as goal

pub returns-clause-left : goal.returns-clause-left
returns-clause-left g c =
    let z : Layout = c.args.self.now.plan in
    let limit : c.plan.inside.limit ≡ z.limit = search rules in
    left_by_tail z (known_of c.args.seat.now) _ c.see_tail.result c.saturating_sub.result c.see_tail.ensures.sees c.see_tail.ensures.holds
    (c.saturating_sub.ensures ∙ (λ i. limit i - c.see_tail.ensures.tail i))
