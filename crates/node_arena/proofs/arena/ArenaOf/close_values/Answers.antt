use Rattle.std.proofs.Common.{sym, subst, ap, ◌∙◌, vec_capacity, arith}
use Rattle.std.specs.List.{All}
use Rattle.std.specs.Slots.{slots_items}
use Rattle.node_arena.specs.Arenas.{Arena, arena_of}
use Rattle.node_arena.specs.Places.{shared_words}
use Rattle.node_arena.specs.Ends.{HasToken}
use Rattle.node_arena.specs.Leftovers.{ClosesValues}
use Rattle.node_arena.specs.Remains.{IsQueue}
use Rattle.node_arena.proofs.ArenaEnds.{Rests, have_tokens, count_own, queue_as, rests_as}
use Rattle.node_arena.proofs.ValueEnds.{values_end_as, queue_with_flags, all_lie_then, closes_values, slots_within}
use Rattle.node_arena.proofs.arena.ArenaOf.close_values.Goals as goal

pub gathered-gatherer-requires-clause-words : goal.gathered-gatherer-requires-clause-words
gathered-gatherer-requires-clause-words g c = let w = c.self.invariant.0.words in omega arith

pub gathered-gatherer-requires-clause-seats : goal.gathered-gatherer-requires-clause-seats
gathered-gatherer-requires-clause-seats g c = subst (λ (r : Arena). All (HasToken r.id) c.args.seats.items) (sym c.self.view_is) (have_tokens _ _ c.requires.seats c.requires.apart)

pub gathered-gatherer-requires-clause-counts : goal.gathered-gatherer-requires-clause-counts
gathered-gatherer-requires-clause-counts g c = count_own _ _ c.requires.seats

pub emptied-ended-requires-clause-room : goal.emptied-ended-requires-clause-room
emptied-ended-requires-clause-room g c = slots_within _ _ _ _ c.self.invariant.0 (ap (λ (r : Arena). r.plan.carries) c.self.view_is ∙ c.requires.carries)
    (omega (arith, ap (λ (r : Arena). r.plan.setup.size) c.self.view_is, c.requires.slots.enough))

pub rest_of-rest-requires-clause-queue : goal.rest_of-rest-requires-clause-queue
rest_of-rest-requires-clause-queue g c =
    let end = values_end_as c.self.inside.plan c.self.inside.table.shared.key c.args.seats.items _ c.gathered-gatherer.result.0.me.0 _ _ c.self.invariant.0.key
    (ap (λ (r : Arena). r.plan.carries) c.self.view_is ∙ c.requires.carries) c.gathered-gatherer.ensures.token.seat c.emptied-ended.ensures.values in
    subst (λ x. IsQueue g.row.B (shared_words (slots_items x.words)) (vec_capacity c.args.numbers)) (sym c.closed.ensures.closed)
    (queue_as _ _ _ _ c.self.invariant.1 (queue_with_flags c.self.inside.plan c.args.seats.items _ _ c.gathered-gatherer.result.0.me.0 end _
    (omega (arith, ap (λ (r : Arena). r.plan.setup.size) c.self.view_is, c.requires.numbers.enough))))

pub of-requires : goal.of-requires
of-requires g c =
    let end = values_end_as c.self.inside.plan c.self.inside.table.shared.key c.args.seats.items _ c.gathered-gatherer.result.0.me.0 _ _ c.self.invariant.0.key
    (ap (λ (r : Arena). r.plan.carries) c.self.view_is ∙ c.requires.carries) c.gathered-gatherer.ensures.token.seat c.emptied-ended.ensures.values in
    let told = c.rest_of-rest.ensures in
    let words = ap (λ x. shared_words (slots_items x.words)) c.closed.ensures.closed in
    all_lie_then c.self.inside.plan c.args.seats.items _ _ c.gathered-gatherer.result.0.me.0 end c.gathered-gatherer.result.1.pushes c.gathered-gatherer.result.1.pops
    c.gathered-gatherer.result.1.shut c.rest_of-rest.result
    (subst (λ ws. Rests c.self.inside.plan.setup.bits ws c.gathered-gatherer.result.1.pushes c.gathered-gatherer.result.1.pops c.gathered-gatherer.result.1.shut
    c.rest_of-rest.result) words (rests_as _ _ _ _ _ _ _ c.self.invariant.1 (record { left = told.left; taken = told.taken; whole = told.whole })))

pub returns-clause-values : goal.returns-clause-values
returns-clause-values g c =
    let end = values_end_as c.self.inside.plan c.self.inside.table.shared.key c.args.seats.items _ c.gathered-gatherer.result.0.me.0 _ _ c.self.invariant.0.key
    (ap (λ (r : Arena). r.plan.carries) c.self.view_is ∙ c.requires.carries) c.gathered-gatherer.ensures.token.seat c.emptied-ended.ensures.values in
    let told = c.rest_of-rest.ensures in
    let made = c.gathered-gatherer.ensures in
    let words = ap (λ x. shared_words (slots_items x.words)) c.closed.ensures.closed in
    subst (λ r. ClosesValues r c.args.seats.items c.of.result) c.self.view_is
    (closes_values (arena_of c.self.inside.plan c.self.inside.table.shared.key c.self.inside.table.shared.table_id) c.args.seats.items _ _ c.gathered-gatherer.result.0.me.0 end
    c.gathered-gatherer.result.1.pushes c.gathered-gatherer.result.1.pops c.gathered-gatherer.result.1.shut c.rest_of-rest.result c.of.result made.token.others made.pushes
    made.pops made.shut
    (subst (λ ws. Rests c.self.inside.plan.setup.bits ws c.gathered-gatherer.result.1.pushes c.gathered-gatherer.result.1.pops c.gathered-gatherer.result.1.shut
    c.rest_of-rest.result) words (rests_as _ _ _ _ _ _ _ c.self.invariant.1 (record { left = told.left; taken = told.taken; whole = told.whole })))
    c.of.ensures.rest c.of.ensures.slots)
