use Rattle.std.proofs.Common.{lit≤}
use Rattle.line_table.specs.declared.lines.Line.TheVariants.{E3}
use Rattle.nonblocking.specs.Pushes.{pushing}
use Rattle.nonblocking.proofs.PushTurns.{to_e3, fills}
use Rattle.nonblocking.proofs.pushes.fill.Goals as goal

pub e3-requires : goal.e3-requires
e3-requires g c = (
  lit≤ tt,
  (
    lit≤ tt,
    (to_e3 c.args.arena.now c.args.seat.now c.e2-a.new.seat (pushing c.args.a.val) E3 c.args.a c.e2-a.result c.requires.stands c.e2-a.ensures).0,
  ),
)

pub returns : goal.returns
returns g c = fills c.args.arena.now c.args.seat.now c.e2-a.new.seat c.e3.new.seat (pushing c.args.a.val) E3 c.args.a c.e2-a.result c.e3.result c.requires.stands c.e2-a.ensures c.e3.ensures
