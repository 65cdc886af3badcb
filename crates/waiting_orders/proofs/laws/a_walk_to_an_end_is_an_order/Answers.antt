-- The lemma is the law.
use Rattle.waiting_orders.proofs.EndingWalks.{is_of_queue}
use Rattle.waiting_orders.proofs.laws.a_walk_to_an_end_is_an_order.Goals as goal

pub returns : goal.returns
returns c = is_of_queue
