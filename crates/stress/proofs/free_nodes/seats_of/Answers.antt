use Rattle.stress.proofs.Made.{made_fresh}
use Rattle.stress.proofs.free_nodes.seats_of.Goals as goal

pub returns-in-Ok-clause-fresh : goal.returns-in-Ok-clause-fresh
returns-in-Ok-clause-fresh c = made_fresh _ _ _ c.in-Ok.ensures.ok
