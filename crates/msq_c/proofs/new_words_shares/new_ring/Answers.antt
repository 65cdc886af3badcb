use Rattle.std.proofs.Common.{map, ap, ◌∙◌, refl, subst, true}
use Rattle.ring_queue.specs.NewRings.{IsMadeFor}
use Rattle.ring_values.specs.Queues.{ring_of}
use Rattle.msq_c.specs.Made.{ring_role_number}
use Rattle.msq_c.proofs.NewWordsShares.{ring_new, ring_sit, ring_unused}
use Rattle.msq_c.proofs.new_words_shares.new_ring.Goals as goal

pub places_for-places-requires-clause-seats : goal.places_for-places-requires-clause-seats
places_for-places-requires-clause-seats c = c.requires.few_of_ring refl

pub returns-clause-new : goal.returns-clause-new
returns-clause-new c = ring_new c.in-Ok.queue c.in-Ok.within.items c.in-Ok-all_second.seats.items c.in-Ok-all_second.ensures.seats c.args.values c.args.limit c.args.numbers.now
    c.deref.result.now (ap (map ring_role_number) c.deref.ensures.value ∙ c.in_ok-roles.ensures.roles)
    (subst (λ n. IsMadeFor true c.args.values n c.deref.result.now (ring_of c.in-Ok.queue) c.in-Ok.within.items) c.places_for-places.ensures c.in-Ok.ensures.ok)

pub returns-clause-seats : goal.returns-clause-seats
returns-clause-seats c = ring_sit c.in-Ok.queue c.in-Ok.within.items c.in-Ok-all_second.seats.items c.in-Ok-all_second.ensures.seats c.in-Ok.ensures.seats

pub returns-clause-unused : goal.returns-clause-unused
returns-clause-unused c = ring_unused c.in-Ok.queue c.in-Ok.within.items c.in-Ok-all_second.seats.items c.in-Ok-all_second.ensures.seats c.in-Ok.ensures.unused
