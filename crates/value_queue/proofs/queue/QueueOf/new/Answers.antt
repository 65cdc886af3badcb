use Rattle.value_queue.proofs.Opened.{made_seats, made_new}
use Rattle.value_queue.proofs.queue.QueueOf.new.Goals as goal

pub returns-clause-seats : goal.returns-clause-seats
returns-clause-seats g c = made_seats _ _ _ c.in_ok-arena.ensures.ok

pub returns-clause-unused : goal.returns-clause-unused
returns-clause-unused g c = made_new _ _ _ c.in_ok-arena.ensures.ok
