-- The lemma is the law.
use Rattle.history.proofs.OwnOrders.{order_keeps_own}
use Rattle.history.proofs.laws.an_order_keeps_each_actors_own.Goals as goal

pub returns : goal.returns
returns c = order_keeps_own
