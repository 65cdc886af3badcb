-- Which results were gathered, and over which queue the numbers of their jobs went.
use Rattle.std.specs.Prelude.{◌≡◌, ◌⊎◌, ℕ, ◌+◌, ◌<◌, List, ◌∷◌, length, map, Option, IsSome, IsSomeAnd, slice_get}
use Rattle.std.specs.List.{All, AllZip, Contains, flat_map}
use Rattle.history.specs.declared.operations.Taken.{Taken}
use Rattle.history.specs.declared.refusals.Refusal.{Refusal}
use Rattle.history.specs.declared.refusals.Refusal.TheVariants.{Lost}
use Rattle.history.specs.Seats.{Known}
use Rattle.history.specs.Values.{popped}
use Rattle.job_results.specs.declared.jobs.Job.{Job}
use Rattle.job_results.specs.declared.results.JobResult.{JobResult}
use Rattle.job_results.specs.GatheredResults.{IsListed}
use Rattle.job_results.specs.Results.{number_in}
use Rattle.dispatcher.specs.declared.workers.Back.{Back}
use Rattle.dispatcher.specs.declared.crews.JobsRun.{JobsRun}
use Rattle.dispatcher.specs.Submissions.{WasUnshut}
use Rattle.dispatcher.specs.Crews.{HasRun}

-- the job at this place has a result
abbrev pub IsFilled : List (Option JobResult) → (place : ℕ) → Type 0
IsFilled found place = IsSomeAnd (slice_get found place) IsSome

-- each job that has a result now, and had none before, has one of these numbers
abbrev pub OnlyAdds : (found : List (Option JobResult)) → (numbers : List ℕ) → (found' : List (Option JobResult)) → Type 0
OnlyAdds found numbers found' = (place : ℕ) → IsFilled found' place → IsFilled found place ⊎ Contains numbers (place + 1)

-- each job that had a result has one, and so has each that has one of these numbers
abbrev pub Fills : (found : List (Option JobResult)) → (numbers : List ℕ) → (found' : List (Option JobResult)) → Type 0
Fills found numbers found' = (place : ℕ) → IsFilled found place ⊎ Contains numbers (place + 1) → IsFilled found' place

-- each of so many jobs, which are numbered from 1 on, has one of these numbers
abbrev pub Came : (jobs : ℕ) → (numbers : List ℕ) → Type 0
Came jobs numbers = (place : ℕ) → place < jobs → Contains numbers (place + 1)

module _ {S : Type 0} where
  -- the numbers of the results that a worker brought back
  abbrev pub numbers_of : Back S → List ℕ
  numbers_of back = map number_in back.results.items

  -- the numbers of the results that workers brought back
  abbrev pub numbers_in : List (Back S) → List ℕ
  numbers_in workers = flat_map numbers_of workers

  -- each result that workers brought back is of a job in the list, under its number
  abbrev pub AreListed : List Job → List (Back S) → Type 0
  AreListed jobs workers = All (λ back. All (IsListed jobs) back.results.items) workers

  -- the seat that a worker brought back
  abbrev pub seat_of : Back S → S
  seat_of back = back.seat

  -- the seats that workers brought back
  abbrev pub seats_in : List (Back S) → List S
  seats_in workers = map seat_of workers

-- the body of a value
abbrev pub body_of : Taken → ℕ
body_of v = v.body

-- the bodies that a seat took, as it knows
abbrev pub bodies_of : {S : Type 0} → (S → Known) → S → List ℕ
bodies_of known seat = map body_of (popped (known seat).mine)

-- the bodies that these seats took
abbrev pub bodies_in : {S : Type 0} → (S → Known) → List S → List ℕ
bodies_in known seats = flat_map (bodies_of known) seats

-- a seat is the queue's, in no call, and has the number of another one
abbrev pub IsKept : {Q S : Type 0} → (Q → S → Type 0) → (S → Known) → Q → (was seat : S) → Type 0
IsKept is_seat known queue was seat = is_seat queue seat × ((known seat).number ≡ (known was).number)

-- the numbers of so many jobs went over the queue: these are seats of it, the submitter's and then the workers', each with the
-- number that it had, and the number of each job was taken by one of them
pub record WentOver {Q S : Type 0} (is_seat : Q → S → Type 0) (known : S → Known) (queue : Q) (giver : S) (takers : List S) (jobs : ℕ) (seats : List S) : Type 0 where
  pub kept : AllZip (IsKept is_seat known queue) (giver ∷ takers) seats
  pub taken : Came jobs (bodies_in known seats)

-- jobs were run, and of one of them no worker brought back a result
pub record WasLost {Q S : Type 0} (is_seat : Q → S → Type 0) (known : S → Known) (push_cause pop_cause shut_cause : Q → S → S → ℕ → Refusal → Type 0) (queue : Q) (jobs : List Job) (gated : ℕ → Type 0) (giver : S) (takers : List S) : Type 0 where
  pub run : JobsRun S
  pub ran : HasRun is_seat known push_cause pop_cause shut_cause queue jobs (WasUnshut is_seat known shut_cause queue) gated giver takers run
  pub missing : Came (length jobs) (numbers_in run.workers.items) → ⊥

-- a refusal by `Lost` has this cause
abbrev pub LosesOnly : (cause : Type 0) → Refusal → Type 0
LosesOnly cause Lost = cause
LosesOnly cause _ = Unit {0}
