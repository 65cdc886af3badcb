use Rattle.counted_ref.proofs.Words.{cleared_word}
use Rattle.counted_ref.proofs.laws.cleared_node_bits_keep_the_count.Goals as goal

pub returns : goal.returns
returns c bits r s = cleared_word bits s r
