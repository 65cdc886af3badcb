use Rattle.std.proofs.Common.{map, ap, ◌∙◌, subst}
use Rattle.ring_queue.specs.NewRings.{IsMade}
use Rattle.msq_c.specs.Made.{ring_role_number}
use Rattle.msq_c.proofs.Made.{ring_new, ring_unused}
use Rattle.msq_c.proofs.new_queues.new_ring.Goals as goal

pub returns-clause-new : goal.returns-clause-new
returns-clause-new c =
    let those = ap (map ring_role_number) c.deref.ensures.value ∙ c.in_ok-roles.ensures.roles in
    ring_new c.args.values c.args.limit c.args.numbers.now c.deref.result.now those c.in-Ok.queue c.in-Ok.seats.items
    c.in-Ok-of_second.made.0 c.in-Ok-of_second.made.1.items c.in-Ok-of_second.ensures.queue c.in-Ok-of_second.ensures.seats
    (subst (λ n. IsMade c.args.values n c.deref.result.now c.in-Ok.queue c.in-Ok.seats.items) c.places_for-places.ensures c.in-Ok.ensures.ok)

pub returns-clause-unused : goal.returns-clause-unused
returns-clause-unused c =
    let those = ap (map ring_role_number) c.deref.ensures.value ∙ c.in_ok-roles.ensures.roles in
    ring_unused c.args.values c.args.limit c.args.numbers.now c.deref.result.now those c.in-Ok.queue c.in-Ok.seats.items
    c.in-Ok-of_second.made.0 c.in-Ok-of_second.made.1.items c.in-Ok-of_second.ensures.queue c.in-Ok-of_second.ensures.seats c.in-Ok.ensures.unused
