-- The lemma is the law.
use Rattle.ring_queue.proofs.Courses.{done_first}
use Rattle.ring_queue.proofs.laws.what_was_done_comes_first.Goals as goal

pub returns : goal.returns
returns c = done_first
