-- The lemma is the law.
use Rattle.waiting_orders.proofs.PendingPops.{in_turn}
use Rattle.waiting_orders.proofs.laws.the_pending_pop_that_began_first_goes_first.Goals as goal

pub returns : goal.returns
returns c = in_turn
