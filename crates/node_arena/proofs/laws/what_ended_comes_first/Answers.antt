-- The lemma is the law.
use Rattle.node_arena.proofs.Courses.{ended_first}
use Rattle.node_arena.proofs.laws.what_ended_comes_first.Goals as goal

pub returns : goal.returns
returns c = ended_first
