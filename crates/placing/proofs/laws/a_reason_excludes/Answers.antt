-- The lemma is the law.
use Rattle.placing.proofs.Excluding.{excludes}
use Rattle.placing.proofs.laws.a_reason_excludes.Goals as goal

pub returns : goal.returns
returns c = excludes
