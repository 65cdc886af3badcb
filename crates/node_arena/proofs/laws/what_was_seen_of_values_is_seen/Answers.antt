-- The lemma is the law.
use Rattle.node_arena.proofs.ValueCourses.{values_seen}
use Rattle.node_arena.proofs.laws.what_was_seen_of_values_is_seen.Goals as goal

pub returns : goal.returns
returns g c = values_seen
