-- The lemma is the law.
use Rattle.ring_queue.proofs.Courses.{seen_in_order}
use Rattle.ring_queue.proofs.laws.what_was_seen_is_seen.Goals as goal

pub returns : goal.returns
returns c = seen_in_order
