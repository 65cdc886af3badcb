-- The lemma is the law.
use Rattle.node_arena.proofs.Courses.{has_one_world}
use Rattle.node_arena.proofs.laws.each_step_has_one_world.Goals as goal

pub returns : goal.returns
returns c = has_one_world
