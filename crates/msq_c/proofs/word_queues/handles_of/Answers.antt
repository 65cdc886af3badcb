use Rattle.std.proofs.Common.{map, ap, ◌∙◌}
use Rattle.msq_c.specs.Made.{role_number}
use Rattle.msq_c.proofs.WordMade.{planned_of, asked_if, len_if}
use Rattle.msq_c.proofs.word_queues.handles_of.Goals as goal

pub seats_of-requires : goal.seats_of-requires
seats_of-requires g c =
    let those = ap (map role_number) c.deref.ensures.value ∙ c.in_ok-roles.ensures.roles in
    (c.type_bounds.send-T, planned_of c.args.kind c.args.nodes c.args.limit _ c.kind_of-kind.result _ c.kind_of-kind.ensures those c.requires.asks)

pub returns-clause-made : goal.returns-clause-made
returns-clause-made g c =
    let those = ap (map role_number) c.deref.ensures.value ∙ c.in_ok-roles.ensures.roles in
    asked_if c.args.kind c.args.nodes c.args.limit _ c.kind_of-kind.result _ c.kind_of-kind.ensures those g.H.Slot.holds g.H.Slot.own c.made.result
    (λ v. v.items) (c.made.ensures.made _ c.in_ok-owned.ensures.unused)

pub returns-clause-len : goal.returns-clause-len
returns-clause-len g c =
    let those = ap (map role_number) c.deref.ensures.value ∙ c.in_ok-roles.ensures.roles in
    len_if c.args.kind c.args.nodes c.args.limit _ c.kind_of-kind.result _ c.kind_of-kind.ensures those g.H.Slot.holds g.H.Slot.own c.made.result
    (λ v. v.items) (c.made.ensures.made _ c.in_ok-owned.ensures.unused)
