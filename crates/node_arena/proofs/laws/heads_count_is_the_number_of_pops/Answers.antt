-- The lemma is the law.
use Rattle.node_arena.proofs.Histories.{counts_pops}
use Rattle.node_arena.proofs.laws.heads_count_is_the_number_of_pops.Goals as goal

pub returns : goal.returns
returns c = counts_pops
