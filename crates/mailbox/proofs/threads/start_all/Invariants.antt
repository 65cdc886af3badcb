use Rattle.std.specs.Prelude.{vec_len, vec_capacity}
use Rattle.mailbox.proofs.Starting.{StartedSoFar}
use Rattle.mailbox.proofs.threads.start_all.Given as goal

abbrev pub invariant-loop-task : goal.invariant-loop-task
invariant-loop-task g l =
    StartedSoFar g.Q.Fifo.is_seat g.Q.Fifo.permits g.Q.Fifo.known g.Q.Fifo.push_cause l.fn.office
    l.fn.tasks.items l.task-iterator.rest.items l.threads.items (vec_len l.threads) (vec_capacity l.threads)
