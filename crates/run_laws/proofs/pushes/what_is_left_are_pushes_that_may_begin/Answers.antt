-- The lemma is the law.
use Rattle.run_laws.proofs.Lasting.{left_lasts}
use Rattle.run_laws.proofs.pushes.what_is_left_are_pushes_that_may_begin.Goals as goal

pub returns : goal.returns
returns c = left_lasts
