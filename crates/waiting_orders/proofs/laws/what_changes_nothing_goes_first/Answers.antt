-- The lemma is the law.
use Rattle.waiting_orders.proofs.Quiet.{quiet_first}
use Rattle.waiting_orders.proofs.laws.what_changes_nothing_goes_first.Goals as goal

pub returns : goal.returns
returns c = quiet_first
