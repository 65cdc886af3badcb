use Rattle.std.proofs.Common.{◌∙◌, ap, arith}
use Rattle.node_arena.specs.Deeds.{pushed}
use Rattle.history.proofs.Learning.{sees_then}
use Rattle.ring_queue.proofs.Moved.{stays_on}
use Rattle.ring_queue.proofs.Pushing.{stopped_after}
use Rattle.ring_queue.proofs.Tries.{tried_then}
use Rattle.ring_queue.proofs.PlacedTurns.{then_said}
use Rattle.ring_queue.proofs.queue.RingQueue.push_words.Goals as goal

pub returns-in-Done-clause-said : goal.returns-in-Done-clause-said
returns-in-Done-clause-said g c =
    then_said c.args.seat.now c.loop.seat c.push_value_turn.new.seat _ _ (ap (λ n. pushed n c.args.value.now) c.loop.invariant.2.number) c.loop.invariant.3 c.in-Done.ensures.said

pub returns-in-Stopped-clause-refused : goal.returns-in-Stopped-clause-refused
returns-in-Stopped-clause-refused g c =
    (stopped_after c.args.self.now.plan c.args.seat.now c.loop.seat c.push_value_turn.new.seat c.loop.invariant.2 c.in-Stopped.refusal c.in-Stopped.ensures.says).refused

pub loop-preserved : goal.loop-preserved
loop-preserved g c =
    let before = c.loop.invariant in
    let name = c.push_value_turn.ensures.name in
    let says = c.in-Failed.ensures.says in
    let more = says.more in
    let raised = before.4 in (
      c.push_value_turn.ensures.seat,
      record { number = name.number ∙ before.1.number; role = name.role ∙ before.1.role },
      sees_then _ _ _ before.2 says.sees,
      stays_on c.args.seat.now c.loop.seat c.push_value_turn.new.seat before.3 c.in-Failed.ensures.said,
      omega (arith, more, raised),
      tried_then c.args.seat.now c.loop.seat c.push_value_turn.new.seat c.loop.counter 1 before.5 says.tried,
    )
