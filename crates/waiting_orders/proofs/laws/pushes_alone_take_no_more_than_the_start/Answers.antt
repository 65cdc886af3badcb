-- The lemma is the law.
use Rattle.waiting_orders.proofs.FewStates.{one_start}
use Rattle.waiting_orders.proofs.laws.pushes_alone_take_no_more_than_the_start.Goals as goal

pub returns : goal.returns
returns c = one_start
