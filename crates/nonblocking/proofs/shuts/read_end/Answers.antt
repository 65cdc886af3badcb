use Rattle.std.proofs.Common.{lit≤}
use Rattle.line_table.specs.declared.lines.Line.TheVariants.{S2, S3}
use Rattle.nonblocking.specs.Shuts.{shutting}
use Rattle.nonblocking.proofs.ShutTurns.{to_s2, to_s3, looks}
use Rattle.nonblocking.proofs.shuts.read_end.Goals as goal

pub s2-a-requires : goal.s2-a-requires
s2-a-requires g c = (
  lit≤ tt,
  (
    lit≤ tt,
    to_s2 c.args.arena.now c.args.seat.now c.s1-a.new.seat (shutting c.args.index) S2 c.blank.result c.s1-a.result
        (record { before = c.requires.before; pocket = c.requires.pocket; knows = tt }) c.s1-a.ensures,
  ),
)

pub s3-requires : goal.s3-requires
s3-requires g c = (
  lit≤ tt,
  (
    lit≤ tt,
    to_s3 c.args.arena.now c.s1-a.new.seat c.s2-a.new.seat S3 c.s1-a.result c.s2-a.result
        (to_s2 c.args.arena.now c.args.seat.now c.s1-a.new.seat (shutting c.args.index) S2 c.blank.result c.s1-a.result
        (record { before = c.requires.before; pocket = c.requires.pocket; knows = tt }) c.s1-a.ensures) c.s2-a.ensures,
  ),
)

pub returns : goal.returns
returns g c = looks c.args.arena.now c.args.seat.now c.s1-a.new.seat c.s2-a.new.seat c.s3.new.seat (shutting c.args.index) S2 S3 c.blank.result
    c.s1-a.result c.s2-a.result c.s3.result (record { before = c.requires.before; pocket = c.requires.pocket; knows = tt }) c.s1-a.ensures
    c.s2-a.ensures c.s3.ensures
