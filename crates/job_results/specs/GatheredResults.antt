-- The results of a list of jobs.
use Rattle.std.specs.Prelude.{◌≡◌, ℕ, ◌+◌, ◌-◌, ◌≤◌, nat_eq, Bool, true, false, ◌&&◌, IsTrue, List, [], ◌∷◌, Option, Some, None, slice_get, slice_set, IsSome, IsSomeAnd, is_none}
use Rattle.std.specs.List.{list_any}
use Rattle.history.specs.declared.refusals.Refusal.{Refusal}
use Rattle.history.specs.declared.refusals.Refusal.TheVariants.{Stranger, Double}
use Rattle.job_results.specs.declared.jobs.Job.{Job}
use Rattle.job_results.specs.declared.results.JobResult.{JobResult}
use Rattle.job_results.specs.Jobs.{same_job}
use Rattle.job_results.specs.Results.{number_in, job_in}

-- whether a result, if there is one, has this number and this job
abbrev pub fits : (number : ℕ) → Job → Option JobResult → Bool
fits number job None = true
fits number job (Some r) = nat_eq (number_in r) number && same_job (job_in r) job

-- whether these are results of these jobs, at most one a job, in their order; the first job has this number
abbrev pub are_found : (first : ℕ) → List Job → List (Option JobResult) → Bool
are_found first [] [] = true
are_found first (job ∷ jobs) (o ∷ found) = fits first job o && are_found (first + 1) jobs found
are_found first _ _ = false

-- the number, from 1 on, is that of a job in the list, which is this one
abbrev pub Names : List Job → (number : ℕ) → Job → Type 0
Names jobs number job = (1 ≤ number) × IsSomeAnd (slice_get jobs (number - 1)) (λ there. IsTrue (same_job job there))

-- the result's number is that of a job in the list, which is the result's
abbrev pub IsListed : List Job → JobResult → Type 0
IsListed jobs r = Names jobs (number_in r) (job_in r)

-- the job of the result's number has a result
abbrev pub IsThere : List (Option JobResult) → JobResult → Type 0
IsThere found r = IsSomeAnd (slice_get found (number_in r - 1)) (λ o. IsSome o)

-- a result of a listed job that had none was added, and nothing else changed
pub record AddsResult (jobs : List Job) (found : List (Option JobResult)) (r : JobResult) (found' : List (Option JobResult)) : Type 0 where
  pub listed : IsListed jobs r
  pub missing : slice_get found (number_in r - 1) ≡ Some None
  pub put : found' ≡ slice_set found (number_in r - 1) (Some r)

-- why a result is not added: its job isn't in the list under its number, or else that job has a result
abbrev pub RefusesResult : List Job → List (Option JobResult) → JobResult → Refusal → Type 0
RefusesResult jobs found r Stranger = ¬ (IsListed jobs r)
RefusesResult jobs found r Double = IsListed jobs r × IsThere found r
RefusesResult jobs found r _ = ⊥

-- a job has no result
abbrev pub MissesOne : List (Option JobResult) → Type 0
MissesOne found = IsTrue (list_any is_none found)
