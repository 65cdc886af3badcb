use Rattle.std.specs.Prelude.{◌≡◌, ◌+◌, ◌≤◌, ◌++◌, List, length, vec_len, vec_capacity}
use Rattle.std.specs.List.{AllZip}
use Rattle.shared_queue.specs.Queues.{numbers_in}
use Rattle.dispatcher.specs.Crews.{IsStartedFor}
use Rattle.dispatcher.proofs.crews.start_all.Given as goal

abbrev pub invariant-loop-seat : goal.invariant-loop-seat
invariant-loop-seat g l =
    let rest = l.seat-iterator.rest.items in
    (done : List _)
    × (done ++ rest ≡ l.fn.takers.items)
    × AllZip (IsStartedFor g.Q.Fifo.is_seat g.Q.Fifo.known g.Q.Fifo.pop_cause (numbers_in l.fn.queue) l.fn.jobs g.X.Excuse.cause g.G.Gate.done l.fn.gate) done l.started.items
    × (vec_len l.started + length rest ≤ vec_capacity l.started)
