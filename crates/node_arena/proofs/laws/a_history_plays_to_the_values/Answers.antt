-- The lemma is the law.
use Rattle.node_arena.proofs.Histories.{history_plays}
use Rattle.node_arena.proofs.laws.a_history_plays_to_the_values.Goals as goal

pub returns : goal.returns
returns c = history_plays
