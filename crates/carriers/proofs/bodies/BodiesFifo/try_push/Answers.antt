use Rattle.carriers.specs.ToEntries.{push_refused_of}
use Rattle.carriers.proofs.bodies.BodiesFifo.try_push.Goals as goal

pub returns-in-Err-clause-refused : goal.returns-in-Err-clause-refused
returns-in-Err-clause-refused g c = push_refused_of _ _ c.in-Err.unpushed.refusal c.in-Err.ensures.refused
