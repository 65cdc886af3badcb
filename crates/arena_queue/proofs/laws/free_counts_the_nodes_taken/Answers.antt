-- The lemma is the law.
use Rattle.arena_queue.proofs.FreeCounts.{free_counts}
use Rattle.arena_queue.proofs.laws.free_counts_the_nodes_taken.Goals as goal

pub returns : goal.returns
returns c = free_counts
