-- The lemma is the law.
use Rattle.node_arena.proofs.Histories.{history_is}
use Rattle.node_arena.proofs.laws.a_history_is_of_the_operations_that_had_their_effect.Goals as goal

pub returns : goal.returns
returns c = history_is
