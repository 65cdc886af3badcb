-- The lemma is the law.
use Rattle.ring_queue.proofs.Courses.{each_course}
use Rattle.ring_queue.proofs.laws.each_course_is_of_one_run.Goals as goal

pub returns : goal.returns
returns c = each_course
