use Rattle.std.proofs.Common.{Some, ◌∙◌}
use Rattle.history.proofs.Learning.{answers_then, sees_then}
use Rattle.ring_queue.specs.Seats.{view}
use Rattle.ring_queue.proofs.Moved.{stays_on}
use Rattle.ring_queue.proofs.Turns.{failed_more}
use Rattle.ring_queue.proofs.Tries.{tried_then}
use Rattle.ring_queue.proofs.PlacedTurns.{then_pops}
use Rattle.ring_queue.proofs.queue.RingQueue.pop_words.Goals as goal

pub returns-in-Took-clause-answer : goal.returns-in-Took-clause-answer
returns-in-Took-clause-answer g c = answers_then _ _ _ (Some c.in-Took.taken) c.loop.invariant.2 c.in-Took.ensures.says

pub loop-preserved : goal.loop-preserved
loop-preserved g c =
    let before = c.loop.invariant.1 in
    let name = c.pop_value_turn.ensures.name in
    let says = c.in-Failed.ensures.says in (
      c.pop_value_turn.ensures.seat,
      record { number = name.number ∙ before.number; role = name.role ∙ before.role },
      sees_then _ _ _ c.loop.invariant.2 says.0,
      stays_on c.args.seat.now c.loop.seat c.pop_value_turn.new.seat c.loop.invariant.3 c.in-Failed.ensures.took,
      failed_more c.args.self.now.plan (view c.args.seat.now).seen c.loop.invariant.2.between c.args.seat.now.head c.loop.counter c.loop.seat
          c.pop_value_turn.new.seat c.loop.invariant.2.seen says.0 c.loop.invariant.4 says.1,
      tried_then c.args.seat.now c.loop.seat c.pop_value_turn.new.seat c.loop.counter 1 c.loop.invariant.5 c.in-Failed.ensures.tried,
      c.pop_value_turn.ensures.wide ∙ c.loop.invariant.6,
    )

pub returns-in-Took-clause-took : goal.returns-in-Took-clause-took
returns-in-Took-clause-took g c = then_pops c.args.seat.now c.loop.seat c.pop_value_turn.new.seat _ c.loop.invariant.2.number c.loop.invariant.3 c.in-Took.ensures.took

pub returns-in-Empty-clause-took : goal.returns-in-Empty-clause-took
returns-in-Empty-clause-took g c = stays_on c.args.seat.now c.loop.seat c.pop_value_turn.new.seat c.loop.invariant.3 c.in-Empty.ensures.took

pub returns-in-Closed-clause-kept : goal.returns-in-Closed-clause-kept
returns-in-Closed-clause-kept g c = stays_on c.args.seat.now c.loop.seat c.pop_value_turn.new.seat c.loop.invariant.3 c.in-Closed.ensures.took
