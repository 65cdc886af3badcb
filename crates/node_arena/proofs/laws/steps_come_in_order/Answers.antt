-- The lemma is the law.
use Rattle.node_arena.proofs.Courses.{in_order}
use Rattle.node_arena.proofs.laws.steps_come_in_order.Goals as goal

pub returns : goal.returns
returns c = in_order
