use Rattle.std.proofs.lemmas.Result.{IfErr-weaker}
use Rattle.carriers.proofs.ByDeeds.{push_refused-deeds}
use Rattle.carriers.proofs.numbered.NumbersCarrier.try_shut.Goals as goal

pub returns-clause-refused : goal.returns-clause-refused
returns-clause-refused g c = IfErr-weaker c.try_shut.result _ _ (push_refused-deeds _ _) c.try_shut.ensures.refused
