use Rattle.std.proofs.Common.{rules}
use Rattle.free_list.specs.Runs.{giving}
use Rattle.free_list.proofs.GiveBack.{after_f1}
use Rattle.free_list.proofs.gives.f1.Goals as goal

pub returns : goal.returns
returns g c = after_f1 c.args.arena.now c.args.seat.now _ (giving c.args.index) c.registers-a.result c.args.held _ c.requires.stands c.registers-a.ensures (search rules)

pub returns-2 : goal.returns-2
returns-2 g c = after_f1 c.args.arena.now c.args.seat.now _ (giving c.args.index) c.registers-a.result c.args.held _ c.requires.stands c.registers-a.ensures (search rules)
