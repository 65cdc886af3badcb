-- The lemma is the law.
use Rattle.run_laws.proofs.Begun.{take_nodes}
use Rattle.run_laws.proofs.pushes.pushes_take_at_most_one_node_each.Goals as goal

pub returns : goal.returns
returns c = take_nodes
