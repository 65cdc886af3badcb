-- The result of a job.
use Rattle.std.specs.Prelude.{ℕ, IsTrue, List, map}
use Rattle.std.specs.Cmp.Lexicographic.{pointwise}
use Rattle.job_results.specs.declared.jobs.Job.{Job}
use Rattle.job_results.specs.declared.jobs.Value.{Value}
use Rattle.job_results.specs.declared.results.JobResult.{JobResult}
use Rattle.job_results.specs.Jobs.{kind_of, same_job, Row}

-- the number of a result's job
abbrev pub number_in : JobResult → ℕ
number_in r = r.number

-- the job of a result
abbrev pub job_in : JobResult → Job
job_in r = r.job.now

-- the value of a result
abbrev pub value_in : JobResult → Value
value_in r = r.value

-- what is told of a result
abbrev pub row_of : JobResult → Row
row_of r = record { number = number_in r; kind = kind_of (job_in r); value = value_in r }

-- the jobs of these results are the same as these jobs, one by one
abbrev pub HaveJobs : List JobResult → List Job → Type 0
HaveJobs results jobs = IsTrue (pointwise same_job (map job_in results) jobs)
