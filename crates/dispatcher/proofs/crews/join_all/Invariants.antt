use Rattle.std.specs.Prelude.{◌≡◌, ◌+◌, ◌≤◌, ◌++◌, List, length, vec_len, vec_capacity}
use Rattle.std.specs.List.{AllZip}
use Rattle.shared_queue.specs.Queues.{numbers_in}
use Rattle.dispatcher.specs.Crews.{Returned}
use Rattle.dispatcher.proofs.crews.join_all.Given as goal

abbrev pub invariant-loop-one : goal.invariant-loop-one
invariant-loop-one g l =
    let rest = l.one-iterator.rest.items in
    (done : List _)
    × (done ++ rest ≡ l.fn.started.items)
    × AllZip (Returned g.Q.Fifo.is_seat g.Q.Fifo.known g.Q.Fifo.pop_cause (numbers_in l.fn.queue) l.fn.jobs g.X.Excuse.cause g.G.Gate.done l.fn.gate) done l.workers.items
    × (vec_len l.workers + length rest ≤ vec_capacity l.workers)
