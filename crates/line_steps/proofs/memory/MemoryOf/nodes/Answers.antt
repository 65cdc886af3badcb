-- The nodes that are seen are as many as there are.
use Rattle.std.proofs.Common.{length, sym, ap, ◌∙◌}
use Rattle.line_steps.specs.Rooms.{Memory}
use Rattle.line_steps.proofs.Seen.{length-nodes}
use Rattle.line_steps.proofs.memory.MemoryOf.nodes.Goals as goal

pub returns : goal.returns
returns g c =
    sym (length-nodes g.row.B c.self.inside.size _ c.self.inside.words.items c.self.invariant.words c.self.invariant.few) ∙
    ap (λ (m : Memory). length m.words.nodes) c.self.view_is
