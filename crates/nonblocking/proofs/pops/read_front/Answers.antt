use Rattle.std.proofs.Common.{lit≤}
use Rattle.line_table.specs.declared.lines.Line.TheVariants.{D3, D4, D5}
use Rattle.nonblocking.specs.Pops.{popping}
use Rattle.nonblocking.proofs.PopTurns.{to_d3, to_d4, to_d5, looks}
use Rattle.nonblocking.proofs.pops.read_front.Goals as goal

pub d3-a-requires : goal.d3-a-requires
d3-a-requires g c = (
  lit≤ tt,
  (
    lit≤ tt,
    to_d3 c.args.arena.now c.args.seat.now c.d2-a.new.seat (popping c.args.index) D3 c.blank.result c.d2-a.result c.requires.before c.d2-a.ensures,
  ),
)

pub d4-a-requires : goal.d4-a-requires
d4-a-requires g c = (
  lit≤ tt,
  (
    lit≤ tt,
    to_d4 c.args.arena.now c.d2-a.new.seat c.d3-a.new.seat D4 c.d2-a.result c.d3-a.result
        (to_d3 c.args.arena.now c.args.seat.now c.d2-a.new.seat (popping c.args.index) D3 c.blank.result c.d2-a.result c.requires.before
        c.d2-a.ensures) c.d3-a.ensures,
  ),
)

pub d5-requires : goal.d5-requires
d5-requires g c = (
  lit≤ tt,
  (
    lit≤ tt,
    to_d5 c.args.arena.now c.d3-a.new.seat c.d4-a.new.seat D5 c.d3-a.result c.d4-a.result
        (to_d4 c.args.arena.now c.d2-a.new.seat c.d3-a.new.seat D4 c.d2-a.result c.d3-a.result
        (to_d3 c.args.arena.now c.args.seat.now c.d2-a.new.seat (popping c.args.index) D3 c.blank.result c.d2-a.result c.requires.before
        c.d2-a.ensures) c.d3-a.ensures) c.d4-a.ensures,
  ),
)

pub returns : goal.returns
returns g c = looks c.args.arena.now c.args.seat.now c.d2-a.new.seat c.d3-a.new.seat c.d4-a.new.seat c.d5.new.seat (popping c.args.index)
    c.blank.result c.d2-a.result c.d3-a.result c.d4-a.result D3 D4 D5 c.d5.result c.requires.before c.d2-a.ensures c.d3-a.ensures c.d4-a.ensures
    c.d5.ensures
