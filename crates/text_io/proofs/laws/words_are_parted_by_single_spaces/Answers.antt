-- Each lemma is a clause of the law.
use Rattle.text_io.proofs.Splits.{spaced-words_of, words_of-spaced}
use Rattle.text_io.proofs.laws.words_are_parted_by_single_spaces.Goals as goal

pub returns : goal.returns
returns c = record { line = spaced-words_of; words = words_of-spaced }
