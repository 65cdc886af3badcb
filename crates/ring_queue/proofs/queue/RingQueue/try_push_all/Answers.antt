use Rattle.std.proofs.Common.{take, ◌∙◌, arith}
use Rattle.history.proofs.Learning.{sees_then}
use Rattle.ring_queue.specs.Seats.{known_of}
use Rattle.ring_queue.proofs.Pushing.{stopped_after}
use Rattle.ring_queue.proofs.Turns.{pushed_all_after}
use Rattle.ring_queue.proofs.Tries.{tried_then}
use Rattle.ring_queue.proofs.queue.RingQueue.try_push_all.Goals as goal

pub returns-in-Done-clause-pushed : goal.returns-in-Done-clause-pushed
returns-in-Done-clause-pushed g c =
    pushed_all_after (known_of c.args.seat.now) (known_of c.loop.seat) (known_of c.many_turn.new.seat) (take c.in-Done.count c.args.bodies.now) c.loop.invariant.sees c.in-Done.ensures.says.1

pub returns-in-Stopped-clause-refused : goal.returns-in-Stopped-clause-refused
returns-in-Stopped-clause-refused g c =
    (stopped_after c.args.self.now.plan c.args.seat.now c.loop.seat c.many_turn.new.seat c.loop.invariant.sees c.in-Stopped.refusal c.in-Stopped.ensures.says).refused

pub loop-preserved : goal.loop-preserved
loop-preserved g c =
    let inv = c.loop.invariant in
    let before = inv.name in
    let name = c.many_turn.ensures.name in
    let says = c.in-Failed.ensures.says in
    let more = says.more in
    let raised = inv.raised in
    record {
      seat = c.many_turn.ensures.seat;
      name = record { number = name.number ∙ before.number; role = name.role ∙ before.role };
      sees = sees_then _ _ _ inv.sees says.sees;
      raised = omega (arith, more, raised);
      tried = tried_then c.args.seat.now c.loop.seat c.many_turn.new.seat c.loop.counter 1 inv.tried says.tried;
    }
