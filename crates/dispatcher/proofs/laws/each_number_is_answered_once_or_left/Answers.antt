use Rattle.dispatcher.specs.Submissions.{WasUnshut}
use Rattle.dispatcher.proofs.Once.{once_or_left, nothing_left}
use Rattle.dispatcher.proofs.laws.each_number_is_answered_once_or_left.Goals as goal

pub returns-clause-once : goal.returns-clause-once
returns-clause-once g c =
    λ queue jobs gate giver takers run rest ran new closed n one low.
    once_or_left g.Q.Fifo.is_seat g.Q.Fifo.known g.Q.Fifo.push_cause g.Q.Fifo.pop_cause g.Q.Fifo.shut_cause queue (g.Q.Fifo.permits queue) jobs
    (WasUnshut g.Q.Fifo.is_seat g.Q.Fifo.known g.Q.Fifo.shut_cause queue) (g.G.Gate.done gate) giver takers run rest ran new closed n one low

pub returns-clause-all : goal.returns-clause-all
returns-clause-all g c =
    λ queue jobs gate giver takers run rest ran new closed any.
    nothing_left g.Q.Fifo.is_seat g.Q.Fifo.known g.Q.Fifo.push_cause g.Q.Fifo.pop_cause g.Q.Fifo.shut_cause queue (g.Q.Fifo.permits queue) jobs
    (WasUnshut g.Q.Fifo.is_seat g.Q.Fifo.known g.Q.Fifo.shut_cause queue) (g.G.Gate.done gate) giver takers run rest ran new closed any.0 any.1 any.2 any.3
