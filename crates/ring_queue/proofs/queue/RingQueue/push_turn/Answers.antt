use Rattle.ring_queue.proofs.Pushing.{push_after, moves_after}
use Rattle.ring_queue.proofs.queue.RingQueue.push_turn.Goals as goal

pub returns-in-Ok-clause-says : goal.returns-in-Ok-clause-says
returns-in-Ok-clause-says g c = push_after c.args.self.now.plan c.args.seat.now c.find_room.new.seat c.push_there.new.seat c.args.body c.push_there.result c.in-Ok.ensures.found c.push_there.ensures.says

pub returns-in-Ok-clause-moves : goal.returns-in-Ok-clause-moves
returns-in-Ok-clause-moves g c =
    moves_after c.args.self.now.plan c.args.seat.now c.find_room.new.seat c.push_there.new.seat c.args.body c.push_there.result c.in-Ok.ensures.found.sees.number c.in-Ok.ensures.slots
    c.push_there.ensures.moves
