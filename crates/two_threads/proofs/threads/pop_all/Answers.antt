use Rattle.std.proofs.Common.{◌∙◌, ◌++◌, ◌∷◌, [], ap}
use Rattle.history.specs.declared.operations.Entry.TheVariants.{Pop}
use Rattle.shared_queue.proofs.ByEntries.{received-mine, shut_empty-since, taken_from}
use Rattle.two_threads.proofs.Orders.{popped_more}
use Rattle.two_threads.proofs.threads.pop_all.Goals as goal

pub loop-preserved : goal.loop-preserved
loop-preserved g c =
    let was = c.loop.invariant.popped in
    let one = c.in-Ok.ensures in
    let k = g.Q.Fifo.known c.loop.seat in
    let more = received-mine k (g.Q.Fifo.known c.recv.new.seat) c.in-Ok.front one.received ∙ ap (λ front. k.mine ++ Pop k.number (taken_from front) ∷ []) c.into_taken.ensures in
    record {
      can = tt;
      finite = tt;
      popped = record {
        seat = one.seat;
        number = one.number ∙ was.number;
        mine = popped_more _ _ _ _ _ _ c.into_taken.result was.number was.mine more c.in-Ok-push.ensures.items;
      };
    }

pub returns-in-Err-Closed-clause-taken : goal.returns-in-Err-Closed-clause-taken
returns-in-Err-Closed-clause-taken g c =
    let was = c.loop.invariant.popped in
    let found = shut_empty-since (g.Q.Fifo.known c.loop.seat) (g.Q.Fifo.known c.recv.new.seat) (rw c.in-Err-Closed.field-0-is at c.in-Err-Closed.ensures.refused) in
    record {
      popped = record { seat = c.recv.ensures.seat; number = c.recv.ensures.number ∙ was.number; mine = found.1 ∙ was.mine };
      done = found.0;
    }
