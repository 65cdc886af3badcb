-- The lemma is the law.
use Rattle.carriers.proofs.Running.{run-shut}
use Rattle.carriers.proofs.laws.nothing_is_pushed_after_a_shut.Goals as goal

pub returns : goal.returns
returns g c = run-shut
