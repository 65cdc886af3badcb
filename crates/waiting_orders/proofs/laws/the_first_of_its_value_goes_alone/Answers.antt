-- The lemma is the law.
use Rattle.waiting_orders.proofs.Alike.{goes_alone}
use Rattle.waiting_orders.proofs.laws.the_first_of_its_value_goes_alone.Goals as goal

pub returns : goal.returns
returns c = goes_alone
