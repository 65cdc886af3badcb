-- The lemma is the law.
use Rattle.carriers.proofs.Running.{pushed-RunsTo}
use Rattle.carriers.proofs.laws.popped_then_left.Goals as goal

pub returns : goal.returns
returns g c = pushed-RunsTo
