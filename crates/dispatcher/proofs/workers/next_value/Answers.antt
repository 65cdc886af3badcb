use Rattle.std.proofs.Common.{◌∙◌, ◌∷◌, ◌++◌, [], ap}
use Rattle.history.specs.declared.operations.Entry.TheVariants.{Pop}
use Rattle.shared_queue.specs.Queues.{numbers_in}
use Rattle.shared_queue.proofs.ByEntries.{empty-since, received-mine, shut_empty-since, taken_from}
use Rattle.dispatcher.proofs.Ending.{ends_pop}
use Rattle.dispatcher.proofs.workers.next_value.Goals as goal

pub returns-in-Ok-Done-clause-took : goal.returns-in-Ok-Done-clause-took
returns-in-Ok-Done-clause-took g c =
    let was = g.Q.Fifo.known c.args.seat.now in
    let got = rw c.in-Ok-Done.field-0-is at c.in-Ok-Done.ensures.answer in
    received-mine was (g.Q.Fifo.known c.recv_until.new.seat) c.in-Ok-Done.front got
    ∙ ap (λ front. was.mine ++ Pop was.number (taken_from front) ∷ []) c.into_taken.ensures

pub returns-then-has_given_up-clause-ended : goal.returns-then-has_given_up-clause-ended
returns-then-has_given_up-clause-ended g c =
    let late = rw c.in-Ok-Late.field-0-is at c.in-Ok-Late.ensures.answer in
    let found = empty-since (g.Q.Fifo.known c.args.seat.now) (g.Q.Fifo.known c.recv_until.new.seat) _ late.0 late.1 in
    (c.has_given_up.ensures c.if-has_given_up.true, found.0, found.1)

pub returns-else-has_given_up-clause-took : goal.returns-else-has_given_up-clause-took
returns-else-has_given_up-clause-took g c =
    let late = rw c.in-Ok-Late.field-0-is at c.in-Ok-Late.ensures.answer in
    empty-since (g.Q.Fifo.known c.args.seat.now) (g.Q.Fifo.known c.recv_until.new.seat) _ late.0 late.1

pub returns-in-Closed-clause-ended : goal.returns-in-Closed-clause-ended
returns-in-Closed-clause-ended g c =
    shut_empty-since (g.Q.Fifo.known c.args.seat.now) (g.Q.Fifo.known c.recv_until.new.seat) (rw c.in-Closed.is at c.in-Err.ensures.refused)

pub returns-in_default-clause-ended : goal.returns-in_default-clause-ended
returns-in_default-clause-ended g c =
    let e = c.in-Err.ensures.caused in
    ends_pop g.Q.Fifo.is_seat g.Q.Fifo.known g.Q.Fifo.pop_cause (numbers_in c.args.queue.now) c.args.jobs.now g.X.Excuse.cause c.args.seat.now c.recv_until.new.seat
    c.in-Err.refusal c.in_default.not-Closed c.in-Err.ensures.refusal c.in-Err.ensures.refused (record { last = e.last; seat = e.seat; waited = e.waited; caused = e.caused })
