-- The lemma is the law.
use Rattle.run_laws.proofs.Lasting.{moments_last}
use Rattle.run_laws.proofs.pushes.words_last_between_two_moments.Goals as goal

pub returns : goal.returns
returns g c = moments_last
