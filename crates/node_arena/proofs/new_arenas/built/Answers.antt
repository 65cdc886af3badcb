use Rattle.std.proofs.Common.{◌∙◌, ap, refl}
use Rattle.node_arena.specs.NewArenas.{first_memory_words}
use Rattle.node_arena.specs.Places.{shared_words}
use Rattle.node_arena.proofs.Deals.{none_follow, opens_alone, laid, new_seats}
use Rattle.node_arena.proofs.new_arenas.built.Goals as goal

pub of_words-requires : goal.of_words-requires
of_words-requires g c = opens_alone _ c.args.plan _ c.requires.numbers c.requires.planned
    (ap shared_words c.as_slice.ensures.value ∙ none_follow _ _ c.in_ok-words.ensures ∙ ap (λ z. first_memory_words z.setup.size) c.plan.view_is)

pub deal_all-seats-requires-clause-table : goal.deal_all-seats-requires-clause-table
deal_all-seats-requires-clause-table g c =
    laid _ _ _ _ _ _ c.requires.numbers c.requires.planned c.in_ok-table.ensures.5 c.plan.view_is c.in_ok-table.ensures.0 c.as_slice.ensures.value
    (none_follow _ _ c.in_ok-words.ensures) c.in_ok-table.ensures.1

pub invariant_of-result : goal.invariant_of-result
invariant_of-result g c = (
  laid _ _ _ _ _ _ c.requires.numbers c.requires.planned c.in_ok-table.ensures.5 c.plan.view_is c.in_ok-table.ensures.0 c.as_slice.ensures.value
      (none_follow _ _ c.in_ok-words.ensures) c.in_ok-table.ensures.1,
  c.requires.bits,
)

pub returns : goal.returns
returns g c =
    let arena = laid _ _ _ _ _ _ c.requires.numbers c.requires.planned c.in_ok-table.ensures.5 c.plan.view_is c.in_ok-table.ensures.0
    c.as_slice.ensures.value (none_follow _ _ c.in_ok-words.ensures) c.in_ok-table.ensures.1 in
    record { plan = refl; count = c.deal_all-seats.ensures.count; each = new_seats _ c.deal_all-seats.result.items arena c.deal_all-seats.ensures.seats }

pub deal_all-seats-requires-clause-keeper : goal.deal_all-seats-requires-clause-keeper
deal_all-seats-requires-clause-keeper g c = record { table = c.in_ok-table.ensures.2; seat = ap (λ y. y.0.plain) c.in_ok-table.ensures.4; held = ap (λ y. y.1) c.in_ok-table.ensures.4 }
