-- The lemma is the law.
use Rattle.ring_queue.proofs.Courses.{adds_its}
use Rattle.ring_queue.proofs.laws.each_step_adds_its_access.Goals as goal

pub returns : goal.returns
returns c = adds_its
