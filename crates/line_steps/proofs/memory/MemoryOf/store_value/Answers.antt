-- The word is written among those that are kept, and so the value of the node that they stand for.
use Rattle.std.proofs.Common.{refl}
use Rattle.line_steps.proofs.Seen.{value_stored}
use Rattle.line_steps.proofs.memory.MemoryOf.store_value.Goals as goal

pub returns : goal.returns
returns g c =
    value_stored g.row.B _ _ c.self.view_is c.self.inside.size c.args.node c.next_place.result c.value_word.result c.self.inside.words.items _ c.args.new refl
    c.self.invariant.words c.requires c.next_place.ensures c.value_word.ensures.word c.value_word.ensures.in_range c.set_word.ensures
