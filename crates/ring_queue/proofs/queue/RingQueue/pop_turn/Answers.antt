use Rattle.std.proofs.Common.{Some, refl}
use Rattle.history.proofs.Learning.{answers_then}
use Rattle.ring_queue.proofs.Moved.{then_takes, turn_moves, none_stays}
use Rattle.ring_queue.proofs.Turns.{turn_after}
use Rattle.ring_queue.proofs.Tries.{turn_tried, tried_then}
use Rattle.ring_queue.proofs.queue.RingQueue.pop_turn.Goals as goal

pub returns-in_default-clause-says : goal.returns-in_default-clause-says
returns-in_default-clause-says g c = turn_after _ c.args.seat.now c.look_twice_at_front.new.seat c.turn_at_end.new.seat c.turn_at_end.result
    c.look_twice_at_front.ensures.sees c.look_twice_at_front.ensures.head c.turn_at_end.ensures.says

pub returns-in-Some-take_front-clause-says : goal.returns-in-Some-take_front-clause-says
returns-in-Some-take_front-clause-says g c = answers_then _ _ _ (Some c.in-Some-take_front.taken) c.in-Some.ensures.sees c.in-Some-take_front.ensures.taken

pub returns-in_default-clause-moves : goal.returns-in_default-clause-moves
returns-in_default-clause-moves g c =
    turn_moves c.args.self.now.plan c.args.seat.now c.look_twice_at_front.new.seat c.turn_at_end.new.seat c.turn_at_end.result
    c.look_twice_at_front.ensures.sees.number c.look_twice_at_front.ensures.slots c.turn_at_end.ensures.moves

pub returns-in-Some-take_front-clause-moves : goal.returns-in-Some-take_front-clause-moves
returns-in-Some-take_front-clause-moves g c =
    then_takes c.args.self.now.plan c.in-Some-take_front.taken c.args.seat.now c.look_twice_at_front.new.seat c.take_front.new.seat
    c.in-Some.ensures.sees.number c.in-Some.ensures.slots c.in-Some-take_front.ensures.moves

pub take_front-requires-clause-none : goal.take_front-requires-clause-none
take_front-requires-clause-none g c carried = none_stays c.args.seat.now c.look_twice_at_front.new.seat c.in-Some.ensures.slots (c.requires.none carried)

pub returns-in_default-clause-tried : goal.returns-in_default-clause-tried
returns-in_default-clause-tried g c = turn_tried c.args.seat.now c.look_twice_at_front.new.seat c.turn_at_end.new.seat c.turn_at_end.result c.look_twice_at_front.ensures.tried c.turn_at_end.ensures.tried

pub returns-in-None-clause-tried : goal.returns-in-None-clause-tried
returns-in-None-clause-tried g c = tried_then c.args.seat.now c.look_twice_at_front.new.seat c.take_front.new.seat 0 1 c.in-Some.ensures.tried (c.in-None.ensures.tried refl)
