use Rattle.two_threads.proofs.Makings.{duo_in}
use Rattle.two_threads.proofs.new_queues.run_new.Goals as goal

pub run-requires-after_bounds : goal.run-requires-after_bounds
run-requires-after_bounds g c κs within =
    (duo_in g.Q.Fifo.is_seat g.Q.Fifo.permits g.Q.Fifo.known c.args.queue c.args.seats.items _ _ c.in-Some-pop.giver c.in-Some.taker
    c.in-Some.ensures.items c.in-Some-pop.ensures.items c.requires).1

pub returns-clause-taken : goal.returns-clause-taken
returns-clause-taken g c =
    let one = (duo_in g.Q.Fifo.is_seat g.Q.Fifo.permits g.Q.Fifo.known c.args.queue c.args.seats.items _ _ c.in-Some-pop.giver c.in-Some.taker
    c.in-Some.ensures.items c.in-Some-pop.ensures.items c.requires).0 in
    rw one at c.run.ensures.taken
