-- The lemma is the law.
use Rattle.history.proofs.Tallying.{takes_at_most_pushes}
use Rattle.history.proofs.laws.a_value_is_taken_at_most_as_often_as_pushed.Goals as goal

pub returns : goal.returns
returns c = takes_at_most_pushes
