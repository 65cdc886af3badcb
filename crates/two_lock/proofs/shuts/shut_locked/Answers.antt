use Rattle.std.proofs.Common.{lit≤, IsTrue, sym, subst}
use Rattle.line_table.specs.declared.lines.Line.TheVariants.{S8, S9}
use Rattle.two_lock.proofs.ShutTries.{to_s8, at_s9, puts_end}
use Rattle.two_lock.proofs.shuts.shut_locked.Goals as goal
use Rattle.node_arena.specs.Plans.{may_push}

pub s8-a-requires : goal.s8-a-requires
s8-a-requires g c = (
  lit≤ tt,
  (
    lit≤ tt,
    (
      to_s8 c.args.arena.now c.args.seat.now c.s7-a.new.seat S8 c.args.a c.s7-a.result c.requires.stands c.s7-a.ensures,
      subst (λ x. IsTrue (may_push x)) (sym c.s7-a.ensures.did.stored.role) c.requires.role,
    ),
  ),
)

pub s9-requires : goal.s9-requires
s9-requires g c = (
  lit≤ tt,
  (
    lit≤ tt,
    at_s9 c.args.arena.now c.args.seat.now c.s7-a.new.seat c.s8-a.new.seat c.args.a c.s7-a.result c.s8-a.result S8 S9 c.requires.stands c.s7-a.ensures c.s8-a.ensures,
  ),
)

pub returns : goal.returns
returns g c = puts_end c.args.arena.now c.args.seat.now c.s7-a.new.seat c.s8-a.new.seat c.args.a c.s7-a.result c.s8-a.result S8 S9 c.requires.stands
    c.s7-a.ensures c.s8-a.ensures c.s9.new.seat c.s9.result c.s9.ensures
