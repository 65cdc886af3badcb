use Rattle.std.proofs.Common.{map, ap, ◌∙◌, subst}
use Rattle.node_arena.specs.NewArenas.{IsMade}
use Rattle.picked.specs.Splits.{value_limited_plan}
use Rattle.picked.specs.AnyValues.{arena_of}
use Rattle.msq_c.specs.Made.{role_number}
use Rattle.msq_c.proofs.NewWordsShares.{nodes_new, nodes_sit, nodes_unused}
use Rattle.msq_c.proofs.new_words_shares.new_linked.Goals as goal

pub returns-clause-new : goal.returns-clause-new
returns-clause-new c = nodes_new c.in-Ok.queue c.in-Ok.within.items c.in-Ok-all_first.seats.items c.in-Ok-all_first.ensures.seats c.args.kind c.args.nodes c.args.limit c.args.numbers.now
    c.kind_of-kind.result c.deref.result.now c.kind_of-kind.ensures (ap (map role_number) c.deref.ensures.value ∙ c.in_ok-roles.ensures.roles)
    (subst (λ n. IsMade (value_limited_plan c.kind_of-kind.result c.args.nodes n c.deref.result.now) (arena_of c.in-Ok.queue) c.in-Ok.within.items) c.count_for-count.ensures c.in-Ok.ensures.ok)

pub returns-clause-seats : goal.returns-clause-seats
returns-clause-seats c = nodes_sit c.in-Ok.queue c.in-Ok.within.items c.in-Ok-all_first.seats.items c.in-Ok-all_first.ensures.seats c.in-Ok.ensures.seats

pub returns-clause-unused : goal.returns-clause-unused
returns-clause-unused c = nodes_unused c.in-Ok.queue c.in-Ok.within.items c.in-Ok-all_first.seats.items c.in-Ok-all_first.ensures.seats c.in-Ok.ensures.unused
