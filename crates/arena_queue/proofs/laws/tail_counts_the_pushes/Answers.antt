-- The lemma is the law.
use Rattle.arena_queue.proofs.TailCounts.{tail_counts}
use Rattle.arena_queue.proofs.laws.tail_counts_the_pushes.Goals as goal

pub returns : goal.returns
returns c = tail_counts
