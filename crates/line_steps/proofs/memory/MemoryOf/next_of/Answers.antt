-- The word of the node's `next`.
use Rattle.std.proofs.Common.{get_or, sym, ap, ◌∙◌}
use Rattle.counted_ref.specs.Ref.{ref_of}
use Rattle.line_steps.specs.Memory.{node_at}
use Rattle.line_steps.proofs.Seen.{next_seen}
use Rattle.line_steps.proofs.memory.MemoryOf.next_of.Goals as goal

pub returns : goal.returns
returns g c =
    c.of_word.ensures.value ∙
    ap (ref_of g.row.B) (c.word_at.ensures ∙ ap (λ p. get_or c.self.inside.words.items p 0) c.next_place.ensures) ∙
    sym (next_seen g.row.B c.self.inside.size _ c.args.node c.self.inside.words.items c.self.invariant.words) ∙
    ap (λ m. (node_at m.words c.args.node).next) c.self.view_is
