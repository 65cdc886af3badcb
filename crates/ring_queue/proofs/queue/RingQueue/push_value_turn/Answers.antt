use Rattle.ring_queue.proofs.Pushing.{push_after}
use Rattle.ring_queue.proofs.PlacedTurns.{turn_said}
use Rattle.ring_queue.proofs.queue.RingQueue.push_value_turn.Goals as goal

pub returns-in-Ok-clause-says : goal.returns-in-Ok-clause-says
returns-in-Ok-clause-says g c = push_after c.args.self.now.plan c.args.seat.now c.find_room.new.seat c.push_value_there.new.seat 0 c.push_value_there.result c.in-Ok.ensures.found c.push_value_there.ensures.says

pub returns-in-Ok-clause-said : goal.returns-in-Ok-clause-said
returns-in-Ok-clause-said g c =
    turn_said c.args.seat.now c.find_room.new.seat c.push_value_there.new.seat c.args.value.now c.push_value_there.result c.in-Ok.ensures.found.sees.number c.in-Ok.ensures.slots c.push_value_there.ensures.said
