-- Over which queue jobs went.
use Rattle.std.specs.Prelude.{◌≡◌, ℕ, ◌+◌, List, Option, length}
use Rattle.std.specs.List.{All}
use Rattle.history.specs.Seats.{Known}
use Rattle.job_results.specs.declared.jobs.Job.{Job}
use Rattle.node_arena.specs.Seats.{known_of}
use Rattle.picked.specs.Picked.{AnyQueue, IsAnySeat}
use Rattle.ring_queue.specs.declared.queue.RingQueue.{RingQueue}
use Rattle.ring_queue.specs.Queues.{IsNumberSeat}
use Rattle.ring_queue.specs.Seats.{known_of as ring_known_of}
use Rattle.picked.specs.declared.either.EitherQueue.{EitherQueue}
use Rattle.picked.specs.declared.either.EitherQueue.TheVariants.{First, Second}
use Rattle.dispatcher.specs.Goings.{Came, bodies_in}
use Rattle.job_engine.specs.declared.crews.CrewSeats.{CrewSeats}
use Rattle.job_engine.specs.declared.crews.CrewSeats.TheVariants.{Linked, Ring}
use Rattle.job_engine.specs.Works.{IsTextOf}

-- so many jobs went over a queue: these are seats of it, in no call, one for each worker and one more, and the number of each
-- job, from 1 on, was taken by one of them
pub record IsOver {Q S : Type 0} (is_seat : Q → S → Type 0) (known : S → Known) (queue : Q) (workers jobs : ℕ) (seats : List S) : Type 0 where
  pub each : All (is_seat queue) seats
  pub count : length seats ≡ workers + 1
  pub taken : Came jobs (bodies_in known seats)

-- the same of a queue of either kind
abbrev pub WereOver : (workers jobs : ℕ) → EitherQueue AnyQueue (RingQueue (Unit {0})) → CrewSeats → Type 0
WereOver workers jobs (First q) (Linked seats) = IsOver IsAnySeat known_of q workers jobs seats.items
WereOver workers jobs (Second q) (Ring seats) = IsOver IsNumberSeat ring_known_of q workers jobs seats.items
WereOver workers jobs q seats = ⊥

-- known bytes were the text of jobs, and these went over a queue
pub record WentFor (given : Option (List ℕ)) (workers : ℕ) (queue : EitherQueue AnyQueue (RingQueue (Unit {0}))) (seats : CrewSeats) : Type 0 where
  pub jobs : List Job
  pub text : IsTextOf given jobs
  pub over : WereOver workers (length jobs) queue seats
