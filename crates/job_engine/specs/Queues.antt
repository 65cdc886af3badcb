-- The queue over which jobs were done, and its seats.
use Rattle.picked.specs.Picked.{AnyQueue}
use Rattle.picked.specs.declared.either.EitherQueue.{EitherQueue}
use Rattle.ring_queue.specs.declared.queue.RingQueue.{RingQueue}
use Rattle.job_engine.specs.declared.crews.CrewSeats.{CrewSeats}
use Rattle.job_engine.specs.declared.crews.JobQueue.{JobQueue}

-- the queue itself
abbrev pub queue_in : JobQueue → EitherQueue AnyQueue (RingQueue (Unit {0}))
queue_in done = done.queue

-- its seats
abbrev pub seats_in : JobQueue → CrewSeats
seats_in done = done.seats
