-- The flag is set among those that are kept, and so among all.
use Rattle.std.proofs.Common.{refl}
use Rattle.line_steps.proofs.Seen.{set_aside}
use Rattle.line_steps.proofs.memory.MemoryOf.set_aside.Goals as goal

pub returns : goal.returns
returns g c =
    set_aside g.row.B _ _ c.self.view_is c.self.inside.size _ c.self.inside.aside.items c.set_flag.new.aside.items c.args.node refl
    c.self.inside.aside.ok.0 c.requires c.set_flag.ensures c.set_flag.new.aside.ok.0
