-- The lemma is the law.
use Rattle.waiting_orders.proofs.PendingPops.{told_instead}
use Rattle.waiting_orders.proofs.laws.a_pop_that_was_told_the_value_goes_instead.Goals as goal

pub returns : goal.returns
returns c = told_instead
