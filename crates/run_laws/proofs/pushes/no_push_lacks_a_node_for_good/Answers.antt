-- The lemmas are the law.
use Rattle.run_laws.proofs.Again.{finds_free_unworn, meets_free_unworn, give_back_ends, greatest_is_odd}
use Rattle.run_laws.proofs.pushes.no_push_lacks_a_node_for_good.Goals as goal

pub returns-clause-worlds : goal.returns-clause-worlds
returns-clause-worlds g c = finds_free_unworn

pub returns-clause-calls : goal.returns-clause-calls
returns-clause-calls g c = meets_free_unworn

pub returns-clause-given : goal.returns-clause-given
returns-clause-given g c = give_back_ends

pub returns-clause-greatest : goal.returns-clause-greatest
returns-clause-greatest g c = greatest_is_odd
