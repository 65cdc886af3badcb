-- Each lemma is a clause of the law.
use Rattle.history.proofs.TwoOrders.{too_early_is_not, lost_is_not}
use Rattle.history.proofs.Tallying.{twice_is_not}
use Rattle.history.proofs.laws.wrong_histories_are_not_linearizable.Goals as goal

pub returns : goal.returns
returns c = record { too_early = too_early_is_not; lost = lost_is_not; twice = twice_is_not }
