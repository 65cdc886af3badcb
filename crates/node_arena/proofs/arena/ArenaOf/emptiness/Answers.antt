use Rattle.std.proofs.Common.{refl, sym, ap, ◌∙◌, arith}
use Rattle.counted_ref.specs.Ref.{is_null}
use Rattle.node_arena.proofs.LooksOn.{three_keep, three_more}
use Rattle.node_arena.proofs.Found.{behind_head, shut_told, found_moved, found_empty, found_shut, found_some}
use Rattle.node_arena.proofs.arena.ArenaOf.emptiness.Goals as goal

pub look-requires : goal.look-requires
look-requires g c =
    let within = behind_head _ 2 _ _ _ c.look-head.ensures.told refl _ _ c.reference.ensures c.node-front.ensures.value in
    (omega arith, (c.look-head.ensures.ready, within))

pub returns-then-look-head-clause-found : goal.returns-then-look-head-clause-found
returns-then-look-head-clause-found g c =
    found_moved _ c.node-front.result _ _ _ _ _ _ _ c.look-head.ensures.told c.look.ensures.told c.look-2.ensures.told
    c.reference.result c.reference.ensures c.node-front.ensures.value c.if-look-head.true

pub returns-then-is_null-clause-found : goal.returns-then-is_null-clause-found
returns-then-is_null-clause-found g c =
    found_empty _ c.node-front.result _ _ _ _ _ _ _ c.look-head.ensures.told c.look.ensures.told c.look-2.ensures.told
    c.reference.result c.reference.ensures c.node-front.ensures.value c.if-look-head.false
    (ap is_null (sym c.reference-next.ensures) ∙ sym c.is_null.ensures ∙ c.if-is_null.true)

pub returns-then-is_shut-clause-found : goal.returns-then-is_shut-clause-found
returns-then-is_shut-clause-found g c =
    found_shut _ c.node-front.result _ _ _ _ _ _ _ c.look-head.ensures.told c.look.ensures.told c.look-2.ensures.told
    c.reference.result c.reference.ensures c.node-front.ensures.value c.if-look-head.false
    (shut_told _ c.args.self.now.plan.setup _ _ _ _ _ c.setup.ensures.value c.setup.ensures.bits c.reference-next.ensures c.is_shut.ensures c.if-is_shut.true)

pub returns-else-is_shut-clause-found : goal.returns-else-is_shut-clause-found
returns-else-is_shut-clause-found g c =
    found_some _ c.node-front.result _ _ _ _ _ _ _ c.look-head.ensures.told c.look.ensures.told c.look-2.ensures.told
    c.reference.result c.reference.ensures c.node-front.ensures.value c.if-look-head.false
    (ap is_null (sym c.reference-next.ensures) ∙ sym c.is_null.ensures ∙ c.if-is_null.false)
    (shut_told _ c.args.self.now.plan.setup _ _ _ _ _ c.setup.ensures.value c.setup.ensures.bits c.reference-next.ensures c.is_shut.ensures c.if-is_shut.false)

pub returns-then-look-head-clause-slots : goal.returns-then-look-head-clause-slots
returns-then-look-head-clause-slots g c = three_keep _ _ _ _ _ _ _ _ _ _ _ c.look-head.ensures c.look.ensures c.look-2.ensures

pub returns-then-look-head-clause-values : goal.returns-then-look-head-clause-values
returns-then-look-head-clause-values g c = three_more _ _ _ _ _ _ _ _ _ _ _ c.look-head.ensures c.look.ensures c.look-2.ensures

pub returns-then-is_null-clause-slots : goal.returns-then-is_null-clause-slots
returns-then-is_null-clause-slots g c = three_keep _ _ _ _ _ _ _ _ _ _ _ c.look-head.ensures c.look.ensures c.look-2.ensures

pub returns-then-is_null-clause-values : goal.returns-then-is_null-clause-values
returns-then-is_null-clause-values g c = three_more _ _ _ _ _ _ _ _ _ _ _ c.look-head.ensures c.look.ensures c.look-2.ensures

pub returns-then-is_shut-clause-slots : goal.returns-then-is_shut-clause-slots
returns-then-is_shut-clause-slots g c = three_keep _ _ _ _ _ _ _ _ _ _ _ c.look-head.ensures c.look.ensures c.look-2.ensures

pub returns-then-is_shut-clause-values : goal.returns-then-is_shut-clause-values
returns-then-is_shut-clause-values g c = three_more _ _ _ _ _ _ _ _ _ _ _ c.look-head.ensures c.look.ensures c.look-2.ensures

pub returns-else-is_shut-clause-slots : goal.returns-else-is_shut-clause-slots
returns-else-is_shut-clause-slots g c = three_keep _ _ _ _ _ _ _ _ _ _ _ c.look-head.ensures c.look.ensures c.look-2.ensures

pub returns-else-is_shut-clause-values : goal.returns-else-is_shut-clause-values
returns-else-is_shut-clause-values g c = three_more _ _ _ _ _ _ _ _ _ _ _ c.look-head.ensures c.look.ensures c.look-2.ensures
