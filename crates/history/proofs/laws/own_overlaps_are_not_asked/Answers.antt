-- Each lemma is a clause of the law.
use Rattle.history.proofs.SmallOrders.{own_overlap_is, own_overlap_overlaps}
use Rattle.history.proofs.laws.own_overlaps_are_not_asked.Goals as goal

pub returns : goal.returns
returns c = record { linearizable = own_overlap_is; overlapping = own_overlap_overlaps }
