-- What the seats are told by deeds they are told by entries.
use Rattle.carriers.specs.ToEntries.{meets}
use Rattle.msq_c.proofs.seat_blocks.SeatBlock.meet.Goals as goal

pub returns-clause-meets : goal.returns-clause-meets
returns-clause-meets c = meets _ _ _ _ c.meet.ensures.meets
