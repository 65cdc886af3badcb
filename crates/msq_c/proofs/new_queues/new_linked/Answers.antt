use Rattle.std.proofs.Common.{map, ap, ◌∙◌, subst}
use Rattle.node_arena.specs.NewArenas.{IsMade}
use Rattle.picked.specs.Splits.{limited_plan}
use Rattle.picked.specs.Picked.{picked_arena_of}
use Rattle.msq_c.specs.Made.{role_number}
use Rattle.msq_c.proofs.Made.{linked_new, linked_unused}
use Rattle.msq_c.proofs.new_queues.new_linked.Goals as goal

pub returns-clause-new : goal.returns-clause-new
returns-clause-new c =
    let those = ap (map role_number) c.deref.ensures.value ∙ c.in_ok-roles.ensures.roles in
    linked_new c.args.kind c.args.nodes c.args.limit c.args.numbers.now c.kind_of-kind.result c.deref.result.now c.kind_of-kind.ensures those c.in-Ok.queue c.in-Ok.seats.items
    c.in-Ok-of_first.made.0 c.in-Ok-of_first.made.1.items c.in-Ok-of_first.ensures.queue c.in-Ok-of_first.ensures.seats
    (subst (λ n. IsMade (limited_plan c.kind_of-kind.result c.args.nodes n c.deref.result.now) (picked_arena_of c.in-Ok.queue) c.in-Ok.seats.items) c.count_for-count.ensures c.in-Ok.ensures.ok)

pub returns-clause-unused : goal.returns-clause-unused
returns-clause-unused c =
    let those = ap (map role_number) c.deref.ensures.value ∙ c.in_ok-roles.ensures.roles in
    linked_unused c.args.kind c.args.nodes c.args.limit c.args.numbers.now c.kind_of-kind.result c.deref.result.now c.kind_of-kind.ensures those c.in-Ok.queue c.in-Ok.seats.items
    c.in-Ok-of_first.made.0 c.in-Ok-of_first.made.1.items c.in-Ok-of_first.ensures.queue c.in-Ok-of_first.ensures.seats c.in-Ok.ensures.unused
