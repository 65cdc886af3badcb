use Rattle.std.proofs.Common.{map, sym, subst, ap, ◌∙◌, vec_capacity, arith}
use Rattle.std.specs.List.{All}
use Rattle.std.specs.Slots.{slots_items, slots_counts}
use Rattle.history.specs.Ends.{Closes}
use Rattle.node_arena.specs.Arenas.{Arena, arena_of}
use Rattle.node_arena.specs.Places.{shared_words}
use Rattle.node_arena.specs.Ended.{closed_of}
use Rattle.node_arena.specs.Ends.{HasToken}
use Rattle.node_arena.specs.Remains.{IsQueue}
use Rattle.node_arena.specs.Seats.{known_of, permits_of}
use Rattle.node_arena.proofs.Numbers.{have_none}
use Rattle.node_arena.proofs.ArenaEnds.{Rests, words_alone, slots_none, have_tokens, count_own, queue_as, rests_as, ends, queue_at_end, closes_at_end}
use Rattle.node_arena.proofs.ends.ArenaOf+B.close_with.Goals as goal

pub gathered-gatherer-requires-clause-words : goal.gathered-gatherer-requires-clause-words
gathered-gatherer-requires-clause-words g c = let w = c.self.invariant.0.words in omega arith

pub gathered-gatherer-requires-clause-seats : goal.gathered-gatherer-requires-clause-seats
gathered-gatherer-requires-clause-seats g c = subst (λ (r : Arena). All (HasToken r.id) c.args.seats.items) (sym c.self.view_is)
    (have_tokens _ _ c.requires.seats (have_none _ c.requires.numbers _ c.requires.seats))

pub gathered-gatherer-requires-clause-counts : goal.gathered-gatherer-requires-clause-counts
gathered-gatherer-requires-clause-counts g c = count_own _ _ c.requires.seats

pub of-ended-requires-clause-slots : goal.of-ended-requires-clause-slots
of-ended-requires-clause-slots g c = slots_none _ _ _ c.self.invariant.0 (ap (λ (r : Arena). r.plan.carries) c.self.view_is ∙ c.requires.numbers)

pub rest_of-rest-requires-clause-queue : goal.rest_of-rest-requires-clause-queue
rest_of-rest-requires-clause-queue g c =
    let end = ends c.self.inside.plan c.self.inside.table.shared.key c.args.seats.items _ c.gathered-gatherer.result.0.me _ _ c.self.invariant.0.key
    (words_alone _ _ _ _ c.self.invariant.0 (ap (λ (r : Arena). r.plan.carries) c.self.view_is ∙ c.requires.numbers)
    (sym (slots_counts (closed_of c.of-ended.result).words).0 ∙ c.of-ended.ensures.words)) c.gathered-gatherer.ensures.token.seat
    c.of-ended.ensures.values in
    subst (λ x. IsQueue g.row.B (shared_words (slots_items x.words)) (vec_capacity c.args.room)) (sym c.closed.ensures.closed)
    (queue_as _ _ _ _ c.self.invariant.1 (queue_at_end c.self.inside.plan c.args.seats.items _ _ (omega (arith, ap (λ r. r.plan.setup.size) c.self.view_is, c.requires.room.enough)) end))

pub returns-clause-rest : goal.returns-clause-rest
returns-clause-rest g c =
    let end = ends c.self.inside.plan c.self.inside.table.shared.key c.args.seats.items _ c.gathered-gatherer.result.0.me _ _ c.self.invariant.0.key
    (words_alone _ _ _ _ c.self.invariant.0 (ap (λ (r : Arena). r.plan.carries) c.self.view_is ∙ c.requires.numbers)
    (sym (slots_counts (closed_of c.of-ended.result).words).0 ∙ c.of-ended.ensures.words)) c.gathered-gatherer.ensures.token.seat
    c.of-ended.ensures.values in
    let told = c.rest_of-rest.ensures in
    let made = c.gathered-gatherer.ensures in
    let words = ap (λ x. shared_words (slots_items x.words)) c.closed.ensures.closed in
    subst (λ r. Closes (permits_of r) (map known_of c.args.seats.items) c.rest_of-rest.result) c.self.view_is
    (closes_at_end (arena_of c.self.inside.plan c.self.inside.table.shared.key c.self.inside.table.shared.table_id) c.args.seats.items _
    c.gathered-gatherer.result.1.pushes c.gathered-gatherer.result.1.pops c.gathered-gatherer.result.1.shut c.rest_of-rest.result end made.pushes
    made.pops made.shut
    (subst (λ ws. Rests c.self.inside.plan.setup.bits ws c.gathered-gatherer.result.1.pushes c.gathered-gatherer.result.1.pops
    c.gathered-gatherer.result.1.shut c.rest_of-rest.result) words (rests_as _ _ _ _ _ _ _ c.self.invariant.1
    (record { left = told.left; taken = told.taken; whole = told.whole })))).0
