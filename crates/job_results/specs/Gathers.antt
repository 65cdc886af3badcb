-- What a gathering of results has.
use Rattle.std.specs.Prelude.{List, Option}
use Rattle.history.specs.declared.refusals.Refusal.{Refusal}
use Rattle.job_results.specs.declared.jobs.Job.{Job}
use Rattle.job_results.specs.declared.results.JobResult.{JobResult}
use Rattle.job_results.specs.declared.gathers.Gather.{Gather}
use Rattle.job_results.specs.GatheredResults.{AddsResult, RefusesResult}

-- the jobs whose results are gathered
abbrev pub jobs_in : Gather → List Job
jobs_in g = g.jobs.now

-- what is gathered: for each job its result, if there is one
abbrev pub found_in : Gather → List (Option JobResult)
found_in g = g.found.items

-- a result was added, for a job that had none
abbrev pub Adds : Gather → JobResult → Gather → Type 0
Adds g r g' = AddsResult (jobs_in g) (found_in g) r (found_in g')

-- why a result is not added
abbrev pub RefusesToAdd : Gather → JobResult → Refusal → Type 0
RefusesToAdd g r refusal = RefusesResult (jobs_in g) (found_in g) r refusal
