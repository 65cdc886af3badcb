use Rattle.std.proofs.Common.{lit≤, IsTrue, sym, subst}
use Rattle.nonblocking.proofs.PopTurns.{never_worn, to_d13, bare_d13, moves_head}
use Rattle.nonblocking.proofs.pops.move_head.Goals as goal
use Rattle.node_arena.specs.Plans.{may_pop}

pub unreachable-requires : goal.unreachable-requires
unreachable-requires g c = never_worn c.args.arena.now c.args.seat.now c.d12.new.seat c.args.a c.d12.result c.requires.non_blocking c.requires.stands c.d12.ensures c.in_default.not-Goes

pub d13-requires : goal.d13-requires
d13-requires g c = (
  lit≤ tt,
  (
    lit≤ tt,
    (
      to_d13 c.args.arena.now c.args.seat.now c.d12.new.seat c.args.a c.in-Goes.a c.in-Goes.field-0 c.requires.stands c.in-Goes.ensures,
      (
        bare_d13 c.args.arena.now c.args.seat.now c.d12.new.seat c.args.a c.in-Goes.a c.in-Goes.field-0 c.requires.stands c.in-Goes.ensures c.requires.bare,
        subst (λ x. IsTrue (may_pop x)) (sym c.in-Goes.ensures.did.stored.role) c.requires.role,
      ),
    ),
  ),
)

pub returns : goal.returns
returns g c = rw c.turned.ensures (moves_head c.args.arena.now c.args.seat.now c.d12.new.seat c.args.a c.in-Goes.a c.in-Goes.field-0 c.requires.stands
    c.in-Goes.ensures c.d13.new.seat c.d13.result c.d13.ensures)
