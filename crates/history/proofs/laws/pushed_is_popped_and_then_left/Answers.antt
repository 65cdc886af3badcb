-- The lemma is the law.
use Rattle.history.proofs.Values.{pushed-Leads}
use Rattle.history.proofs.laws.pushed_is_popped_and_then_left.Goals as goal

pub returns : goal.returns
returns c = pushed-Leads
