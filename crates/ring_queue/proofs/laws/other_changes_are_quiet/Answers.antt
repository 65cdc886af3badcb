-- The lemma is the law.
use Rattle.ring_queue.proofs.Courses.{all_quiet}
use Rattle.ring_queue.proofs.laws.other_changes_are_quiet.Goals as goal

pub returns : goal.returns
returns c = all_quiet
