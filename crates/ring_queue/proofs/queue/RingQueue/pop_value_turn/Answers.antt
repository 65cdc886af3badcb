use Rattle.std.proofs.Common.{Some, refl}
use Rattle.history.proofs.Learning.{answers_then}
use Rattle.ring_queue.proofs.Moved.{stays_on}
use Rattle.ring_queue.proofs.Turns.{turn_after}
use Rattle.ring_queue.proofs.Tries.{turn_tried, tried_then}
use Rattle.ring_queue.proofs.PlacedTurns.{end_took, then_pops}
use Rattle.ring_queue.proofs.queue.RingQueue.pop_value_turn.Goals as goal

pub returns-in_default-clause-says : goal.returns-in_default-clause-says
returns-in_default-clause-says g c = turn_after _ c.args.seat.now c.look_twice_at_front.new.seat c.turn_at_end.new.seat c.turn_at_end.result
    c.look_twice_at_front.ensures.sees c.look_twice_at_front.ensures.head c.turn_at_end.ensures.says

pub returns-in-Some-take_value_there-clause-says : goal.returns-in-Some-take_value_there-clause-says
returns-in-Some-take_value_there-clause-says g c = answers_then _ _ _ (Some c.in-Some-take_value_there.taken) c.in-Some.ensures.sees c.in-Some-take_value_there.ensures.taken

pub returns-in_default-clause-took : goal.returns-in_default-clause-took
returns-in_default-clause-took g c =
    end_took c.args.self.now.plan c.args.seat.now c.look_twice_at_front.new.seat c.turn_at_end.new.seat _ c.turn_at_end.result c.turn_at_end.ensures.none c.look_twice_at_front.ensures.slots c.turn_at_end.ensures.moves

pub returns-in-Some-take_value_there-clause-took : goal.returns-in-Some-take_value_there-clause-took
returns-in-Some-take_value_there-clause-took g c =
    then_pops c.args.seat.now c.look_twice_at_front.new.seat c.take_value_there.new.seat _ c.in-Some.ensures.sees.number c.in-Some.ensures.slots c.in-Some-take_value_there.ensures.took

pub returns-in-None-clause-took : goal.returns-in-None-clause-took
returns-in-None-clause-took g c = stays_on c.args.seat.now c.look_twice_at_front.new.seat c.take_value_there.new.seat c.in-Some.ensures.slots c.in-None.ensures.took

pub returns-in_default-clause-tried : goal.returns-in_default-clause-tried
returns-in_default-clause-tried g c = turn_tried c.args.seat.now c.look_twice_at_front.new.seat c.turn_at_end.new.seat c.turn_at_end.result c.look_twice_at_front.ensures.tried c.turn_at_end.ensures.tried

pub returns-in-None-clause-tried : goal.returns-in-None-clause-tried
returns-in-None-clause-tried g c = tried_then c.args.seat.now c.look_twice_at_front.new.seat c.take_value_there.new.seat 0 1 c.in-Some.ensures.tried (c.in-None.ensures.tried refl)
