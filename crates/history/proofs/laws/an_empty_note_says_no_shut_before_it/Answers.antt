-- The lemma is the law.
use Rattle.history.proofs.Sums.{no_shut_before}
use Rattle.history.proofs.laws.an_empty_note_says_no_shut_before_it.Goals as goal

pub returns : goal.returns
returns c = no_shut_before
