-- The lemmas are the law.
use Rattle.ring_queue.proofs.Courses.{line_tells, told_steps}
use Rattle.ring_queue.proofs.laws.told_steps_are_steps.Goals as goal

pub returns-clause-lines : goal.returns-clause-lines
returns-clause-lines g c = line_tells

pub returns-clause-steps : goal.returns-clause-steps
returns-clause-steps g c = told_steps
