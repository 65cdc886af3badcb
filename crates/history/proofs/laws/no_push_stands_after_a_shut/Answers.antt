-- The lemma is the law.
use Rattle.history.proofs.Sums.{none_behind_a_shut}
use Rattle.history.proofs.laws.no_push_stands_after_a_shut.Goals as goal

pub returns : goal.returns
returns c = none_behind_a_shut
