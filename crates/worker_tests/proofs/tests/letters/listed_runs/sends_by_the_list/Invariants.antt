use Rattle.mailbox.specs.Offices.{IsSender}
use Rattle.worker_tests.proofs.tests.letters.listed_runs.sends_by_the_list.Given as goal

abbrev pub invariant-loop-turns : goal.invariant-loop-turns
invariant-loop-turns g l = IsSender g.Q.Fifo.is_seat g.Q.Fifo.permits g.Q.Fifo.known l.office.now l.sender
