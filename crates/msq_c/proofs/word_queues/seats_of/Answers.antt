use Rattle.std.proofs.Common.{subst}
use Rattle.picked.specs.Splits.{value_limited_plan as limited_plan}
use Rattle.msq_c.specs.WordMade.{AreUnused}
use Rattle.msq_c.proofs.WordMade.{unused_of}
use Rattle.msq_c.proofs.word_queues.seats_of.Goals as goal

pub returns-clause-unused : goal.returns-clause-unused
returns-clause-unused g c = subst (λ n. AreUnused (limited_plan c.args.kind c.args.nodes n c.args.roles.now) c.in-Ok-deal.owned.items) c.count_for-count.ensures
    (unused_of _ c.in-Ok.queue c.in-Ok.seats.items c.in-Ok-deal.owned.items c.in-Ok-deal.ensures.queue c.in-Ok-deal.ensures.seats
    c.in-Ok.ensures.ok c.in-Ok.ensures.unused)
