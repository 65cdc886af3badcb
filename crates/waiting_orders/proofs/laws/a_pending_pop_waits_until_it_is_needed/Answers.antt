-- The lemma is the law.
use Rattle.waiting_orders.proofs.PendingPops.{waits_until_needed}
use Rattle.waiting_orders.proofs.laws.a_pending_pop_waits_until_it_is_needed.Goals as goal

pub returns : goal.returns
returns c = waits_until_needed
