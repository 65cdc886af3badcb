use Rattle.std.proofs.Common.{rules}
use Rattle.node_arena.specs.Prologues.{continues}
use Rattle.free_list.proofs.Standing.{after_n3}
use Rattle.free_list.proofs.takes.n3.Goals as goal

pub returns : goal.returns
returns g c = after_n3 c.args.arena.now c.args.seat.now _ continues c.args.a _ c.requires.stands (search rules)
