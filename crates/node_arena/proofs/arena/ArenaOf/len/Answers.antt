use Rattle.std.proofs.Common.{◌+◌, ◌-◌, ◌*◌, nat_eq, refl, sym, ap, ◌∙◌, arith, eqb-true}
use Rattle.counted_ref.specs.Ref.{Ref, is_null, is_shut}
use Rattle.line_steps.specs.declared.actors.Setup.{Setup}
use Rattle.node_arena.specs.Seats.{view}
use Rattle.node_arena.proofs.LooksOn.{five_keep, five_more}
use Rattle.node_arena.proofs.Found.{behind_tail}
use Rattle.node_arena.proofs.TailCounts.{first_below, was_so_long}
use Rattle.node_arena.proofs.arena.ArenaOf.len.Goals as goal

pub look-requires-2 : goal.look-requires-2
look-requires-2 g c = (
  omega arith,
  (
    c.look-tail.ensures.ready,
    behind_tail c.args.self.now.plan 3 c.look-tail.result (view c.look.new.seat)
        (view c.look-tail.new.seat) c.look-tail.ensures.told refl c.reference-end.result c.node.result c.reference-end.ensures c.node.ensures.value,
  ),
)

pub overflow_sub-result : goal.overflow_sub-result
overflow_sub-result g c =
    let below = first_below c.args.self.now.plan c.requires.kind (4 + 2 * c.node.result) c.look.result c.look-tail.result c.look-2.result
    c.look-3.result c.look-4.result (view c.args.seat.now) (view c.look.new.seat) (view c.look-tail.new.seat) (view c.look-2.new.seat)
    (view c.look-3.new.seat) (view c.look-4.new.seat) c.look.ensures.told c.look-tail.ensures.told c.look-2.ensures.told c.look-3.ensures.told
    c.look-4.ensures.told
    (ap (λ k. 4 + 2 * k) (c.node.ensures.value ∙ ap (λ (x : Ref). x.node) c.reference-end.ensures)) in
    omega (arith, below, c.count-first.ensures.value ∙ ap (λ (x : Ref). x.count) c.reference.ensures, c.count-2.ensures.value ∙ ap (λ (x : Ref). x.count) c.reference-end.ensures)

pub returns-clause-long : goal.returns-clause-long
returns-clause-long g c =
    was_so_long c.args.self.now.plan c.requires.kind (4 + 2 * c.node.result) c.look.result c.look-tail.result c.look-2.result c.look-3.result
    c.look-4.result (view c.args.seat.now) (view c.look.new.seat) (view c.look-tail.new.seat) (view c.look-2.new.seat) (view c.look-3.new.seat)
    (view c.look-4.new.seat) c.look.ensures.told c.look-tail.ensures.told c.look-2.ensures.told c.look-3.ensures.told c.look-4.ensures.told
    (ap (λ k. 4 + 2 * k) (c.node.ensures.value ∙ ap (λ (x : Ref). x.node) c.reference-end.ensures))
    (nat_eq c.look-3.result c.look-tail.result) c.is_null.result c.is_shut.result c.behind_tail-few.result _ _
    (eqb-true c.look-3.result c.look-tail.result)
    (ap is_null (sym c.reference-next.ensures) ∙ sym c.is_null.ensures)
    ((λ i. is_shut ((ap (λ (s : Setup). s.bits) (sym c.setup.ensures.value) ∙ c.setup.ensures.bits) i) (sym c.reference-next.ensures i)) ∙ sym c.is_shut.ensures)
    c.behind_tail-few.ensures.exact
    (c.saturating_sub.ensures ∙ (λ i. (c.count.ensures.value ∙ ap (λ (x : Ref). x.count) c.reference-end.ensures) i + c.behind_tail-few.result.0 -
    (c.count-last.ensures.value ∙ ap (λ (x : Ref). x.count) c.reference-2.ensures) i))
    (λ i. (c.count-2.ensures.value ∙ ap (λ (x : Ref). x.count) c.reference-end.ensures) i + c.behind_tail-few.result.1 -
    (c.count-first.ensures.value ∙ ap (λ (x : Ref). x.count) c.reference.ensures) i)

pub returns-clause-slots : goal.returns-clause-slots
returns-clause-slots g c = five_keep _ _ _ _ _ _ _ _ _ _ _ c.look.ensures c.look-tail.ensures c.look-2.ensures _ _ _ _ _ _ c.look-3.ensures c.look-4.ensures

pub returns-clause-values : goal.returns-clause-values
returns-clause-values g c = five_more _ _ _ _ _ _ _ _ _ _ _ c.look.ensures c.look-tail.ensures c.look-2.ensures _ _ _ _ _ _ c.look-3.ensures c.look-4.ensures
