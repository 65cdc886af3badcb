-- The lemma is the law.
use Rattle.waiting_orders.proofs.Counts.{enough_pushes}
use Rattle.waiting_orders.proofs.laws.no_value_is_told_more_often_than_it_is_pushed.Goals as goal

pub returns : goal.returns
returns c = enough_pushes
