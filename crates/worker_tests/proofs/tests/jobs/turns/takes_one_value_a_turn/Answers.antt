use Rattle.worker_tests.proofs.tests.jobs.turns.takes_one_value_a_turn.Goals as goal

pub loop-body-init : goal.loop-body-init
loop-body-init g c = record { giver = c.in_ok-giver.ensures.giver.0; taker = c.in_ok-taker.ensures.0 }
