-- The lemma is the law.
use Rattle.history.proofs.Sums.{one_shut_before}
use Rattle.history.proofs.laws.a_shut_note_says_one_shut_before_it.Goals as goal

pub returns : goal.returns
returns c = one_shut_before
