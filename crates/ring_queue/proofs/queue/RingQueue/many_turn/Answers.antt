use Rattle.ring_queue.proofs.Pushing.{many_after}
use Rattle.ring_queue.proofs.queue.RingQueue.many_turn.Goals as goal

pub returns-in-Ok-clause-says : goal.returns-in-Ok-clause-says
returns-in-Ok-clause-says g c = many_after c.args.self.now.plan c.args.seat.now c.find_room.new.seat c.push_first.new.seat c.args.bodies.now c.push_first.result c.in-Ok.ensures.found c.push_first.ensures.says
