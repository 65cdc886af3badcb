-- The lemma is the law.
use Rattle.history.proofs.Sums.{shut_by_one}
use Rattle.history.proofs.laws.a_queue_is_shut_by_one_shut.Goals as goal

pub returns : goal.returns
returns c = shut_by_one
