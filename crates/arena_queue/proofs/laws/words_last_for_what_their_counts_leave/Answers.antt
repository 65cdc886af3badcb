-- The lemma is the law.
use Rattle.arena_queue.proofs.Lasting.{each_lasts}
use Rattle.arena_queue.proofs.laws.words_last_for_what_their_counts_leave.Goals as goal

pub returns : goal.returns
returns c = each_lasts
