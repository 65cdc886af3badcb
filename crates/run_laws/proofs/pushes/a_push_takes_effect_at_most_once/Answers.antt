-- The lemma is the law.
use Rattle.run_laws.proofs.Begun.{take_effect}
use Rattle.run_laws.proofs.pushes.a_push_takes_effect_at_most_once.Goals as goal

pub returns : goal.returns
returns c = take_effect
