use Rattle.std.proofs.Common.{ℕ, Option, None, replicate, ap, refl, sym, subst}
use Rattle.atomic_table.specs.Table.{opening}
use Rattle.node_arena.specs.Plans.{Layout}
use Rattle.node_arena.specs.Beside.{HoldsFor, first_beside}
use Rattle.node_arena.specs.NewArenas.{LieFirst}
use Rattle.node_arena.proofs.Deals.{opens_vacant, laid_with_slots, new_seats}
use Rattle.node_arena.proofs.valued.built_with_slots.Goals as goal

pub vacant-requires : goal.vacant-requires
vacant-requires g c =
    let first : LieFirst c.args.plan.setup.size c.args.plan.setup.size c.as_slice.result.now =
    subst (λ ws. LieFirst c.args.plan.setup.size c.args.plan.setup.size ws) (sym c.as_slice.ensures.value)
    (subst (λ (z : Layout). LieFirst z.setup.size z.setup.size c.in_ok-words.words.items) c.plan.view_is c.in_ok-words.ensures) in
    subst (λ (n : ℕ). HoldsFor {T = g.row.T.Denot} c.args.plan (opening c.as_slice.result.now (replicate {A = Option g.row.T.Denot} n None)
    (first_beside c.args.plan))) (ap (λ (z : Layout). z.setup.size) (sym c.plan.view_is))
    (opens_vacant g.row.T.Denot c.args.plan c.as_slice.result.now c.requires.values c.requires.planned first)

pub deal_all-seats-requires-clause-table : goal.deal_all-seats-requires-clause-table
deal_all-seats-requires-clause-table g c =
    laid_with_slots _ _ _ _ _ _ c.requires.values c.requires.planned c.in_ok-table.ensures.5 c.plan.view_is c.in_ok-table.ensures.0
    c.as_slice.ensures.value c.in_ok-words.ensures c.in_ok-table.ensures.1

pub invariant_of-result : goal.invariant_of-result
invariant_of-result g c = (
  laid_with_slots _ _ _ _ _ _ c.requires.values c.requires.planned c.in_ok-table.ensures.5 c.plan.view_is c.in_ok-table.ensures.0
      c.as_slice.ensures.value c.in_ok-words.ensures c.in_ok-table.ensures.1,
  c.requires.bits,
)

pub returns : goal.returns
returns g c =
    let arena = laid_with_slots _ _ _ _ _ _ c.requires.values c.requires.planned c.in_ok-table.ensures.5 c.plan.view_is c.in_ok-table.ensures.0
    c.as_slice.ensures.value c.in_ok-words.ensures c.in_ok-table.ensures.1 in
    record { plan = refl; count = c.deal_all-seats.ensures.count; each = new_seats _ c.deal_all-seats.result.items arena c.deal_all-seats.ensures.seats }

pub deal_all-seats-requires-clause-keeper : goal.deal_all-seats-requires-clause-keeper
deal_all-seats-requires-clause-keeper g c = record { table = c.in_ok-table.ensures.2; seat = ap (λ y. y.0.plain) c.in_ok-table.ensures.4; held = ap (λ y. y.1) c.in_ok-table.ensures.4 }
