-- The lemma is the law.
use Rattle.node_arena.proofs.Causes.{takers_meet_no_cause}
use Rattle.node_arena.proofs.laws.a_step_that_takes_a_node_is_not_refused.Goals as goal

pub returns : goal.returns
returns g c = takers_meet_no_cause
