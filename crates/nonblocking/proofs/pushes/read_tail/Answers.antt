use Rattle.std.proofs.Common.{lit≤}
use Rattle.line_table.specs.declared.lines.Line.TheVariants.{E6, E7}
use Rattle.nonblocking.proofs.PushTurns.{to_e6, to_e7, looks}
use Rattle.nonblocking.proofs.pushes.read_tail.Goals as goal

pub e6-a-requires : goal.e6-a-requires
e6-a-requires g c = (
  lit≤ tt,
  (
    lit≤ tt,
    (to_e6 c.args.arena.now c.args.seat.now c.e5-a.new.seat E6 c.args.a c.e5-a.result c.requires.stands c.e5-a.ensures).0,
  ),
)

pub e7-requires : goal.e7-requires
e7-requires g c = (
  lit≤ tt,
  (
    lit≤ tt,
    (to_e7 c.args.arena.now c.e5-a.new.seat c.e6-a.new.seat E7 c.e5-a.result c.e6-a.result
        (to_e6 c.args.arena.now c.args.seat.now c.e5-a.new.seat E6 c.args.a c.e5-a.result c.requires.stands c.e5-a.ensures).0 c.e6-a.ensures).0,
  ),
)

pub returns : goal.returns
returns g c = looks c.args.arena.now c.args.seat.now c.e5-a.new.seat c.e6-a.new.seat c.e7.new.seat E6 E7 c.args.a c.e5-a.result c.e6-a.result
    c.e7.result c.requires.stands c.e5-a.ensures c.e6-a.ensures c.e7.ensures
