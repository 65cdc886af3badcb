use Rattle.std.proofs.Common.{◌≡◌, ℕ, ◌∙◌, subst}
use Rattle.ring_queue.specs.Plans.{Layout}
use Rattle.ring_queue.specs.NewRings.{AreFresh, IsLeastPower}
use Rattle.ring_queue.proofs.Deals.{made}
use Rattle.ring_queue.proofs.new_rings.made.Goals as goal

pub returns-clause-ok : goal.returns-clause-ok
returns-clause-ok g c =
    let q = c.in-Ok-built.made.0 in
    let seats = c.in-Ok-built.made.1.items in
    let slots = c.power_from-slots.result in
    let copied = c.in-Ok.roles.items in
    let b = c.args.carries in
    let p = c.args.placed in
    let k = c.args.width in
    let asked : record { slots = slots; most = c.from.result; limit = c.args.limit; roles = copied; carries = b; placed = p; width = k } ≡
    record { slots = slots; most = c.args.most; limit = c.args.limit; roles = copied; carries = b; placed = p; width = k } =
    λ i. record { slots = slots; most = c.from.ensures i; limit = c.args.limit; roles = copied; carries = b; placed = p; width = k } in
    made b p k c.args.most c.args.limit slots c.args.roles.now copied q seats (c.in-Ok.ensures.items_if_clones_equal (λ x y e. e))
    (subst (λ (m : ℕ). IsLeastPower m slots) c.room_for.ensures.value c.power_from-slots.ensures)
    (c.in-Ok-built.ensures.plan ∙ asked) c.in-Ok-built.ensures.count (subst (λ (z : Layout). AreFresh z q.table.shared.table_id seats) asked c.in-Ok-built.ensures.seats)
