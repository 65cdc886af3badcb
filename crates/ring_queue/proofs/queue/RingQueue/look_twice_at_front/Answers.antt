use Rattle.ring_queue.proofs.Moved.{stays_on}
use Rattle.ring_queue.proofs.Tries.{tried_then}
use Rattle.ring_queue.proofs.queue.RingQueue.look_twice_at_front.Goals as goal

pub returns-clause-slots : goal.returns-clause-slots
returns-clause-slots g c = stays_on c.args.seat.now c.look_at_front.new.seat c.look_at_front-2.new.seat c.look_at_front.ensures.slots c.look_at_front-2.ensures.slots

pub returns-clause-tried : goal.returns-clause-tried
returns-clause-tried g c = tried_then c.args.seat.now c.look_at_front.new.seat c.look_at_front-2.new.seat 0 0 c.look_at_front.ensures.tried c.look_at_front-2.ensures.tried
