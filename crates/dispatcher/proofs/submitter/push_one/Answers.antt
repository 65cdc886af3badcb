use Rattle.std.proofs.Common.{◌∙◌, ◌∷◌, ◌++◌, [], subst, sym}
use Rattle.history.specs.declared.operations.Entry.TheVariants.{Push}
use Rattle.history.specs.Seats.{MayPush}
use Rattle.carriers.specs.ToEntries.{pushed}
use Rattle.carriers.proofs.Learning.{sees_then}
use Rattle.shared_queue.specs.Queues.{numbers_in}
use Rattle.dispatcher.proofs.Ending.{ends_push, refused-mine, seen-mine}
use Rattle.dispatcher.proofs.submitter.push_one.Goals as goal

pub loop-preserved : goal.loop-preserved
loop-preserved g c =
    let queue = numbers_in c.args.queue.now in
    let late = rw c.in-Ok-Late.field-0-is at c.in-Ok-Late.ensures.answer in
    record {
      can = tt;
      finite = tt;
      seat = (c.send_until.ensures.seat, subst (MayPush (g.Q.Fifo.permits queue)) (sym c.send_until.ensures.number) c.loop.invariant.seat.1);
      number = c.send_until.ensures.number ∙ c.loop.invariant.number;
      more = sees_then _ _ _ c.loop.invariant.more (sees_then _ _ _ late.1 late.2);
    }

pub returns-in-Some-none_left-clause-kept : goal.returns-in-Some-none_left-clause-kept
returns-in-Some-none_left-clause-kept g c = seen-mine _ _ c.loop.invariant.more

pub returns-in-Ok-Done-clause-pushed : goal.returns-in-Ok-Done-clause-pushed
returns-in-Ok-Done-clause-pushed g c =
    let did = rw c.in-Ok-Done.field-0-is at c.in-Ok-Done.ensures.answer in
    let same = seen-mine _ _ c.loop.invariant.more in
    (pushed (g.Q.Fifo.known c.loop.seat) (g.Q.Fifo.known c.send_until.new.seat) _ did).mine
    ∙ (λ i. same i ++ Push (c.loop.invariant.number i) (c.in-Some.ensures.value i) ∷ [])

pub returns-in-Err-clause-kept : goal.returns-in-Err-clause-kept
returns-in-Err-clause-kept g c =
    refused-mine (g.Q.Fifo.known c.args.seat.now) (g.Q.Fifo.known c.loop.seat) (g.Q.Fifo.known c.send_until.new.seat)
    c.in-Err.unpushed.refusal c.loop.invariant.more c.in-Err.ensures.refusal c.in-Err.ensures.refused

pub returns-in-Err-clause-refusal : goal.returns-in-Err-clause-refusal
returns-in-Err-clause-refusal g c =
    let e = c.in-Err.ensures.caused in
    ends_push g.Q.Fifo.is_seat g.Q.Fifo.known g.Q.Fifo.push_cause (numbers_in c.args.queue.now) c.args.workers c.args.number c.args.seat.now c.loop.seat c.send_until.new.seat
    c.in-Err.unpushed.refusal c.loop.invariant.more c.in-Err.ensures.refusal c.in-Err.ensures.refused (record { last = e.last; seat = e.seat; more = e.more; caused = e.caused })
