-- What one turn of a worker does.
use Rattle.std.specs.Prelude.{◌≡◌, ℕ, ◌-◌, ◌<◌, ◌≤◌, List, [], ◌∷◌, ◌++◌, ◌⊎◌, length, Option, Some, None, Result, Ok, Err, slice_get}
use Rattle.history.specs.declared.operations.Taken.{Taken}
use Rattle.history.specs.declared.refusals.Refusal.{Refusal}
use Rattle.history.specs.declared.refusals.Refusal.TheVariants.{WornOut, Busy, Memory, Stranger, Closed}
use Rattle.history.specs.Seats.{Known}
use Rattle.history.specs.Answers.{Popped, SeesMore, FoundEmpty, FoundShutEmpty}
use Rattle.job_results.specs.declared.jobs.Job.{Job}
use Rattle.job_results.specs.declared.results.JobResult.{JobResult}
use Rattle.job_results.specs.Results.{number_in, job_in}
use Rattle.dispatcher.specs.declared.worker_turns.Worked.{Worked}
use Rattle.dispatcher.specs.declared.worker_turns.Worked.TheVariants.{Did, Empty, Stop}

-- one value was taken, with this body
pub record Takes (k : Known) (body : ℕ) (k' : Known) : Type 0 where
  pub value : Taken
  pub popped : Popped k value k'
  pub same : value.body ≡ body

-- what a pop took: nothing, with the queue empty, or one value with this number as its body
abbrev pub TakesNumber : (k k' : Known) → Option ℕ → Type 0
TakesNumber k k' None = FoundEmpty k k'
TakesNumber k k' (Some body) = Takes k body k'

-- no job has this number: it is 0, or above that of the jobs
abbrev pub IsNoJob : List Job → (number : ℕ) → Type 0
IsNoJob jobs number = (number ≡ 0) ⊎ (length jobs < number)

-- this job's result, of this number, was put at the end, and nothing else
pub record PutsOne (job : Job) (number : ℕ) (out out' : List JobResult) : Type 0 where
  pub result : JobResult
  pub numbered : number_in result ≡ number
  pub of : job_in result ≡ job
  pub added : out' ≡ out ++ result ∷ []

-- the result of the job of this number was put at the end, and nothing else
pub record PutsResult (jobs : List Job) (number : ℕ) (out out' : List JobResult) : Type 0 where
  pub from_one : 1 ≤ number
  pub result : JobResult
  pub numbered : number_in result ≡ number
  pub of : slice_get jobs (number - 1) ≡ Some (job_in result)
  pub added : out' ≡ out ++ result ∷ []

-- what a turn did: it took the number of a job, and did it; or nothing, with the queue empty, or shut and empty
abbrev pub Works : List Job → (k k' : Known) → (out out' : List JobResult) → Worked → Type 0
Works jobs k k' out out' (Did number) = Takes k number k' × PutsResult jobs number out out'
Works jobs k k' out out' Empty = FoundEmpty k k' × (out' ≡ out)
Works jobs k k' out out' Stop = FoundShutEmpty k k' × (out' ≡ out)

-- why a turn was refused, and what it took: nothing, or a number that no job has
abbrev pub WorksNot : List Job → (k k' : Known) → Refusal → Type 0
WorksNot jobs k k' Memory = k' ≡ k
WorksNot jobs k k' (WornOut word) = SeesMore k k'
WorksNot jobs k k' Busy = SeesMore k k'
WorksNot jobs k k' Stranger = (body : ℕ) × IsNoJob jobs body × Takes k body k'
WorksNot jobs k k' _ = ⊥

-- what the queue ended has this cause: a turn that tells that it is shut and empty, and a refusal that is the queue's; one
-- that is the turn's own wants none
abbrev pub HandsOn : (cause : Refusal → Type 0) → Result Worked Refusal → Type 0
HandsOn cause (Ok Stop) = cause Closed
HandsOn cause (Err (WornOut word)) = cause (WornOut word)
HandsOn cause (Err Busy) = cause Busy
HandsOn cause _ = Unit {0}

-- a gate was told of the job that a turn did
abbrev pub IsTold : (gated : ℕ → Type 0) → Worked → Type 0
IsTold gated (Did number) = gated number
IsTold gated _ = Unit {0}
