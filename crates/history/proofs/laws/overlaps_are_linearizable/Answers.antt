-- Each lemma is a clause of the law.
use Rattle.history.proofs.SmallOrders.{pending_push_is, overlapping_is}
use Rattle.history.proofs.laws.overlaps_are_linearizable.Goals as goal

pub returns : goal.returns
returns c = record { pending = pending_push_is; overlapping = overlapping_is }
