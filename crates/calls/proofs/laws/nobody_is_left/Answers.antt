-- The lemma is the law.
use Rattle.calls.proofs.Kept as kept
use Rattle.calls.proofs.laws.nobody_is_left.Goals as goal

pub returns : goal.returns
returns c = λ s reached. kept.nobody_is_left reached
