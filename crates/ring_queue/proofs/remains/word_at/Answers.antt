use Rattle.std.proofs.Common.{sym, arith}
use Rattle.std.specs.Slots.{slots_items, slots_counts}
use Rattle.ring_queue.proofs.Lefts.{got_word}
use Rattle.ring_queue.proofs.remains.word_at.Goals as goal

pub word-requires : goal.word-requires
word-requires g c = (omega (arith, c.requires.there, (slots_counts c.args.closed.now.words).0), c.requires.full)

pub returns : goal.returns
returns g c = sym (got_word (slots_items c.args.closed.now.words) c.args.index c.word.result c.word.ensures)
