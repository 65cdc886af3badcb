use Rattle.counted_ref.proofs.Words.{refs_apart}
use Rattle.counted_ref.proofs.laws.equal_words_are_of_equal_references.Goals as goal

pub returns : goal.returns
returns c bits a b s = refs_apart bits s a b
