use Rattle.ring_queue.proofs.Turns.{end_failed}
use Rattle.ring_queue.proofs.Moved.{stays_on}
use Rattle.ring_queue.proofs.Tries.{tried_then}
use Rattle.ring_queue.proofs.queue.RingQueue.turn_at_end.Goals as goal

pub returns-in-Ahead-clause-says : goal.returns-in-Ahead-clause-says
returns-in-Ahead-clause-says g c = end_failed c.args.self.now.plan c.args.seat.now c.look_at_end.new.seat c.look_at_head.new.seat c.requires.late
    c.in-Ahead.ensures.says c.look_at_head.ensures.sees c.look_at_head.ensures.more

pub returns-in-Ahead-clause-moves : goal.returns-in-Ahead-clause-moves
returns-in-Ahead-clause-moves g c = stays_on c.args.seat.now c.look_at_end.new.seat c.look_at_head.new.seat c.look_at_end.ensures.slots c.look_at_head.ensures.slots

pub returns-in-Ahead-clause-tried : goal.returns-in-Ahead-clause-tried
returns-in-Ahead-clause-tried g c = tried_then c.args.seat.now c.look_at_end.new.seat c.look_at_head.new.seat 0 1 c.look_at_end.ensures.tried (c.look_at_head.ensures.tried c.in-Ahead.ensures.says.3)
