use Rattle.worker_tests.proofs.tests.jobs.turns.turns_are_pops.Given as goal

abbrev pub invariant-loop-turns : goal.invariant-loop-turns
invariant-loop-turns g l = g.Q.Fifo.is_seat l.queue.queue l.seat
