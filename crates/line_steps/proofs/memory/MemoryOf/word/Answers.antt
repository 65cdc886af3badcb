-- The words that are kept are those that are seen, with 0 up to the last node's.
use Rattle.std.proofs.Common.{Some, sym, ap, ◌∙◌, arith}
use Rattle.std.specs.List.{slice_get}
use Rattle.line_steps.specs.Words.{memory_words}
use Rattle.line_steps.proofs.Seen.{word_seen, no_word_seen}
use Rattle.line_steps.proofs.memory.MemoryOf.word.Goals as goal

pub returns-then-index-self : goal.returns-then-index-self
returns-then-index-self g c =
    ap Some c.word_at.ensures ∙
    sym (word_seen g.row.B c.self.inside.size _ c.args.index c.self.inside.words.items c.self.invariant.words c.self.invariant.few (omega arith)) ∙
    ap (λ m. slice_get (memory_words g.row.B m.words) c.args.index) c.self.view_is

pub returns-else-index-self : goal.returns-else-index-self
returns-else-index-self g c =
    sym (no_word_seen g.row.B c.self.inside.size _ c.args.index c.self.inside.words.items c.self.invariant.words c.self.invariant.few (omega arith)) ∙
    ap (λ m. slice_get (memory_words g.row.B m.words) c.args.index) c.self.view_is
