-- The lemma is the law.
use Rattle.node_arena.proofs.Courses.{told_steps}
use Rattle.node_arena.proofs.laws.told_steps_are_steps.Goals as goal

pub returns : goal.returns
returns g c = told_steps
