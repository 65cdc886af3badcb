-- The lemma is the law.
use Rattle.waiting_orders.proofs.Alike.{alike_pops}
use Rattle.waiting_orders.proofs.laws.of_alike_pops_the_one_that_ends_first.Goals as goal

pub returns : goal.returns
returns c = alike_pops
