-- The word is written among those that are kept, and so the `next` of the node that they stand for.
use Rattle.std.proofs.Common.{refl}
use Rattle.line_steps.proofs.Seen.{next_stored}
use Rattle.line_steps.proofs.memory.MemoryOf.store_next.Goals as goal

pub returns : goal.returns
returns g c =
    next_stored g.row.B c.self.invariant.split _ _ c.self.view_is c.self.inside.size c.args.node c.next_place.result c.word.result c.self.inside.words.items _ c.args.new refl
    c.self.invariant.words c.requires c.next_place.ensures c.word.ensures.value c.word.ensures.in_range c.set_word.ensures
