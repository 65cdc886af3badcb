-- The lemma is the law.
use Rattle.waiting_orders.proofs.Alike.{alike_pushes}
use Rattle.waiting_orders.proofs.laws.of_alike_pushes_the_one_that_ends_first.Goals as goal

pub returns : goal.returns
returns c = alike_pushes
