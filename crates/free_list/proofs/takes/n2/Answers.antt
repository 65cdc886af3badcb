use Rattle.std.proofs.Common.{rules}
use Rattle.node_arena.specs.Prologues.{continues}
use Rattle.free_list.proofs.Standing.{after_n2}
use Rattle.free_list.proofs.takes.n2.Goals as goal

pub returns : goal.returns
returns g c = after_n2 c.args.arena.now c.args.seat.now _ continues c.args.a _ c.requires.stands (search rules)

pub returns-2 : goal.returns-2
returns-2 g c = after_n2 c.args.arena.now c.args.seat.now _ continues c.args.a _ c.requires.stands (search rules)

pub returns-3 : goal.returns-3
returns-3 g c = after_n2 c.args.arena.now c.args.seat.now _ continues c.args.a _ c.requires.stands (search rules)

pub returns-4 : goal.returns-4
returns-4 g c = after_n2 c.args.arena.now c.args.seat.now _ continues c.args.a _ c.requires.stands (search rules)
