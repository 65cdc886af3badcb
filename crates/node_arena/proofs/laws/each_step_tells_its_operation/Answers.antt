-- The lemma is the law.
use Rattle.node_arena.proofs.Courses.{tells_operation}
use Rattle.node_arena.proofs.laws.each_step_tells_its_operation.Goals as goal

pub returns : goal.returns
returns c = tells_operation
