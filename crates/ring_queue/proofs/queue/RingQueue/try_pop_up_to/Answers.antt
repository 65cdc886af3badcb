use Rattle.std.proofs.Common.{◌+◌, ◌≤◌, sym, ap, ◌∙◌, subst, vec_len, vec_capacity}
use Rattle.history.proofs.Learning.{sees_then}
use Rattle.ring_queue.specs.Seats.{known_of, view}
use Rattle.ring_queue.proofs.Turns.{failed_more}
use Rattle.ring_queue.proofs.Tries.{tried_then}
use Rattle.ring_queue.proofs.Batching.{pops_some}
use Rattle.ring_queue.proofs.queue.RingQueue.try_pop_up_to.Goals as goal

pub returns-in-Took-clause-popped : goal.returns-in-Took-clause-popped
returns-in-Took-clause-popped g c =
    pops_some (known_of c.args.seat.now) (known_of c.loop.seat) (known_of c.batch_turn.new.seat) c.args.most c.in-Took.count c.args.into.now.items c.loop.into.items c.batch_turn.new.into.items
    c.loop.invariant.sees (ap (λ v. v.items) c.loop.invariant.into) c.in-Took.ensures.says

pub loop-preserved : goal.loop-preserved
loop-preserved g c =
    let inv = c.loop.invariant in
    let before = inv.name in
    let name = c.batch_turn.ensures.name in
    let says = c.in-Failed.ensures.says in
    record {
      seat = c.batch_turn.ensures.seat;
      name = record { number = name.number ∙ before.number; role = name.role ∙ before.role };
      sees = sees_then _ _ _ inv.sees says.1;
      failed = failed_more c.args.self.now.plan (view c.args.seat.now).seen inv.sees.between c.args.seat.now.head c.loop.counter c.loop.seat
          c.batch_turn.new.seat inv.sees.seen says.1 inv.failed says.2;
      tried = tried_then c.args.seat.now c.loop.seat c.batch_turn.new.seat c.loop.counter 1 inv.tried c.in-Failed.ensures.tried;
      into = says.0 ∙ inv.into;
      room = subst (λ v. vec_len v + c.args.most ≤ vec_capacity v) (sym says.0) inv.room;
    }
