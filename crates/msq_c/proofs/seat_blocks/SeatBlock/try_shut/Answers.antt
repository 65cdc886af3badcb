-- What the seat is told by deeds it is told by entries.
use Rattle.carriers.specs.ToEntries.{shut, push_refused}
use Rattle.msq_c.proofs.seat_blocks.SeatBlock.try_shut.Goals as goal

pub returns-in-Ok-clause-shut : goal.returns-in-Ok-clause-shut
returns-in-Ok-clause-shut c = shut _ _ c.in-Ok.ensures.shut

pub returns-in-Err-clause-refused : goal.returns-in-Err-clause-refused
returns-in-Err-clause-refused c = (c.in-Err.ensures.refusal, push_refused _ _ _ c.in-Err.ensures.refused, c.in-Err.ensures.caused)
