use Rattle.shared_queue.specs.Queues.{numbers_in}
use Rattle.dispatcher.specs.Submissions.{WasUnshut}
use Rattle.dispatcher.proofs.dispatches.run_jobs.Given as goal

-- the submitter gives up only where a shut was refused
abbrev pub ghosts-run_with : goal.ghosts-run_with
ghosts-run_with g a = record { cause = WasUnshut g.Q.Fifo.is_seat g.Q.Fifo.known g.Q.Fifo.shut_cause (numbers_in a.queue.now) }
