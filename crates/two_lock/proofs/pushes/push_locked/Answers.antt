use Rattle.std.proofs.Common.{lit≤, IsTrue, sym, subst}
use Rattle.line_table.specs.declared.lines.Line.TheVariants.{A5, A7}
use Rattle.two_lock.proofs.PushTries.{loaded_at_a5, to_a5, to_a6, to_a7, to_shut, links, finds_shut}
use Rattle.two_lock.proofs.pushes.push_locked.Goals as goal
use Rattle.node_arena.specs.Plans.{may_push}

pub a5-next-requires : goal.a5-next-requires
a5-next-requires g c =
    let at = to_a5 c.args.arena.now c.args.seat.now c.a4-a.new.seat c.args.a c.a4-a.result A5 c.requires.stands c.a4-a.ensures in
    let loaded = loaded_at_a5 c.args.arena.now c.args.seat.now c.a4-a.new.seat c.args.a c.a4-a.result A5 c.a4-a.ensures c.requires.loaded in
    (lit≤ tt, (lit≤ tt, (at, (loaded, subst (λ x. IsTrue (may_push x)) (sym c.a4-a.ensures.did.stored.role) c.requires.role))))

pub a7-requires : goal.a7-requires
a7-requires g c = (
  lit≤ tt,
  (
    lit≤ tt,
    (to_shut c.args.arena.now c.a4-a.new.seat c.a5-next.new.seat c.a4-a.result c.a5-next.result.1 c.a5-next.result.0
        (to_a5 c.args.arena.now c.args.seat.now c.a4-a.new.seat c.args.a c.a4-a.result A5 c.requires.stands c.a4-a.ensures) c.a5-next.ensures c.in-A7.is).0,
  ),
)

pub returns-in-A7 : goal.returns-in-A7
returns-in-A7 g c =
    finds_shut c.args.arena.now c.args.seat.now c.a4-a.new.seat c.a5-next.new.seat c.args.a c.a4-a.result c.a5-next.result.1 A5 c.a5-next.result.0
    c.requires.stands c.a4-a.ensures c.a5-next.ensures c.a7.new.seat c.a7.result c.in-A7.is c.a7.ensures

pub a6-a-requires : goal.a6-a-requires
a6-a-requires g c = (
  lit≤ tt,
  (
    lit≤ tt,
    (to_a6 c.args.arena.now c.a4-a.new.seat c.a5-next.new.seat c.a4-a.result c.a5-next.result.1 c.a5-next.result.0
        (to_a5 c.args.arena.now c.args.seat.now c.a4-a.new.seat c.args.a c.a4-a.result A5 c.requires.stands c.a4-a.ensures) c.a5-next.ensures c.in_default.not-A7).0,
  ),
)

pub a7-requires-2 : goal.a7-requires-2
a7-requires-2 g c = (
  lit≤ tt,
  (
    lit≤ tt,
    to_a7 c.args.arena.now c.a5-next.new.seat c.a6-a.new.seat c.a5-next.result.1 c.a6-a.result A7
        (to_a6 c.args.arena.now c.a4-a.new.seat c.a5-next.new.seat c.a4-a.result c.a5-next.result.1 c.a5-next.result.0
        (to_a5 c.args.arena.now c.args.seat.now c.a4-a.new.seat c.args.a c.a4-a.result A5 c.requires.stands c.a4-a.ensures) c.a5-next.ensures c.in_default.not-A7).0 c.a6-a.ensures,
  ),
)

pub returns : goal.returns
returns g c =
    links c.args.arena.now c.args.seat.now c.a4-a.new.seat c.a5-next.new.seat c.args.a c.a4-a.result c.a5-next.result.1 A5 c.a5-next.result.0
    c.requires.stands c.a4-a.ensures c.a5-next.ensures c.a6-a.new.seat c.a7-2.new.seat c.a6-a.result A7 c.a7-2.result c.in_default.not-A7 c.a6-a.ensures c.a7-2.ensures
