-- The word of the node's value.
use Rattle.std.proofs.Common.{◌+◌, get_or, sym, ap, ◌∙◌}
use Rattle.line_steps.specs.Memory.{node_at}
use Rattle.line_steps.specs.Words.{value_of}
use Rattle.line_steps.proofs.Seen.{value_seen}
use Rattle.line_steps.proofs.memory.MemoryOf.value_of.Goals as goal

pub returns : goal.returns
returns g c =
    c.value_of.ensures ∙
    ap value_of (c.word_at.ensures ∙ ap (λ p. get_or c.self.inside.words.items (p + 1) 0) c.next_place.ensures) ∙
    sym (value_seen g.row.B c.self.inside.size _ c.args.node c.self.inside.words.items c.self.invariant.words) ∙
    ap (λ m. (node_at m.words c.args.node).value) c.self.view_is
