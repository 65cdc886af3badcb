use Rattle.worker_tests.proofs.tests.jobs.turns.takes_one_value_a_turn.Given as goal

abbrev pub invariant-loop-body : goal.invariant-loop-body
invariant-loop-body g l = record {
  giver : g.Q.Fifo.is_seat l.queue l.giver;
  taker : g.Q.Fifo.is_seat l.queue l.taker;
}

abbrev pub invariant-loop-wanted : goal.invariant-loop-wanted
invariant-loop-wanted g l = record {
  giver : g.Q.Fifo.is_seat l.queue l.giver;
  taker : g.Q.Fifo.is_seat l.queue l.taker;
}
