-- The lemma is the law.
use Rattle.ring_queue.proofs.Courses.{steps_in_order}
use Rattle.ring_queue.proofs.laws.steps_come_in_order.Goals as goal

pub returns : goal.returns
returns c = steps_in_order
