-- The lemma is the law.
use Rattle.node_arena.proofs.Courses.{each_course}
use Rattle.node_arena.proofs.laws.each_course_is_of_the_machine.Goals as goal

pub returns : goal.returns
returns c = each_course
