use Rattle.std.specs.List.{All}
use Rattle.shared_queue.specs.Queues.{numbers_in}
use Rattle.dispatcher.specs.Workers.{IsTaker}
use Rattle.worker_tests.proofs.tests.jobs.seats.takers_of.Given as goal

abbrev pub invariant-loop-seat : goal.invariant-loop-seat
invariant-loop-seat g l = All (IsTaker g.Q.Fifo.is_seat g.Q.Fifo.permits g.Q.Fifo.known (numbers_in l.fn.queue)) l.takers.items
