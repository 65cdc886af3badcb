-- The lemma is the law.
use Rattle.run_laws.proofs.Seats.{each_takes_nodes}
use Rattle.run_laws.proofs.pushes.each_push_takes_at_most_one_node.Goals as goal

pub returns : goal.returns
returns c = each_takes_nodes
