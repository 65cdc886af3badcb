-- The lemmas are the law.
use Rattle.placing.proofs.InOrder.{keeps_each_order}
use Rattle.placing.proofs.Spreads.{spread_is_of_queue}
use Rattle.placing.proofs.laws.spread_stamps_keep_their_order.Goals as goal

pub returns-clause-order : goal.returns-clause-order
returns-clause-order c = keeps_each_order

pub returns-clause-object : goal.returns-clause-object
returns-clause-object c = spread_is_of_queue
