use Rattle.place_engine.proofs.checks.tell.Goals as goal

pub returns-in-Yes-clause-prefix : goal.returns-in-Yes-clause-prefix
returns-in-Yes-clause-prefix g c = rw c.in-Yes.is c.history_table.ensures.prefix
