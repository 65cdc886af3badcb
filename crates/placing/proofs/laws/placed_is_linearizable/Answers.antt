-- The lemma is the law.
use Rattle.placing.proofs.Spreads.{placed_is}
use Rattle.placing.proofs.laws.placed_is_linearizable.Goals as goal

pub returns : goal.returns
returns c = placed_is
