use Rattle.carriers.proofs.ByDeeds.{push_refused-deeds}
use Rattle.carriers.proofs.numbered.NumbersCarrier.try_push.Goals as goal

pub returns-in-Err-clause-refused : goal.returns-in-Err-clause-refused
returns-in-Err-clause-refused g c = push_refused-deeds _ _ c.in-Err.refusal c.in-Err.ensures.refused
