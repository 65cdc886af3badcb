-- What work on the text of jobs reads and writes, and what it may be refused.
use Rattle.std.specs.Prelude.{◌≡◌, ℕ, ◌+◌, ◌<◌, ◌≤◌, ◌⊎◌, List, Option, Some, None, Result, Err, ⊤}
use Rattle.std.specs.Io.KnownBytes.{Appends}
use Rattle.counted_ref.specs.Ref.{reserved_node}
use Rattle.text_io.specs.Blocks.{TakesPrefix}
use Rattle.history.specs.declared.refusals.Refusal.{Refusal}
use Rattle.history.specs.declared.refusals.Refusal.TheVariants.{Memory, BadSize, Text, Read, Write, Lost}
use Rattle.job_results.specs.declared.jobs.Job.{Job}
use Rattle.job_results.specs.Jobs.{job_rows}
use Rattle.job_results.specs.JobTexts.{jobs_text, AreJobsInRange, IsFirstFaultOfJobs}
use Rattle.job_results.specs.JobReading.{said_jobs}
use Rattle.report.specs.ResultsTable.{results_text}
use Rattle.text_io.specs.Devices.{SourceState, SinkState}
use Rattle.text_io.specs.Readings.{WereAll, EndsReadingFor}

-- there are not 1 to 64 workers, or not so many nodes: from 3 more than workers to the greatest number of a node
abbrev pub IsBadSize : (workers nodes : ℕ) → Type 0
IsBadSize workers nodes = (workers ≡ 0) ⊎ ((64 < workers) ⊎ ((nodes < workers + 3) ⊎ (reserved_node 24 ≤ nodes)))

-- there are 1 to 64 workers, and so many nodes: from 3 more than workers to the greatest number of a node
pub record AreSized (workers nodes : ℕ) : Type 0 where
  pub some_workers : 1 ≤ workers
  pub few_workers : workers ≤ 64
  pub room : workers + 3 ≤ nodes
  pub few_nodes : nodes < reserved_node 24

-- known bytes were the text of these jobs, which are in range
pub record IsTextOf (given : Option (List ℕ)) (jobs : List Job) : Type 0 where
  pub in_range : AreJobsInRange (said_jobs jobs)
  pub read : WereAll given (jobs_text (said_jobs jobs))

-- known bytes were the text of jobs, and the table of their results was written, each job's once and in their order
pub record WritesResults (given : Option (List ℕ)) (old new : SinkState) : Type 0 where
  pub jobs : List Job
  pub text : IsTextOf given jobs
  pub written : Appends old.contents new.contents (results_text (job_rows 1 jobs))

-- known bytes were the text of jobs, and a prefix of the table of their results was written
pub record BeginsResults (given : Option (List ℕ)) (old new : SinkState) : Type 0 where
  pub jobs : List Job
  pub text : IsTextOf given jobs
  pub begun : TakesPrefix old.contents new.contents (results_text (job_rows 1 jobs))

-- what a refusal tells of known bytes: their first faulty line as jobs, and what is wrong with it; or, where a job has no
-- result, that they are the text of jobs
abbrev pub TellsOfText : (given : Option (List ℕ)) → Refusal → Type 0
TellsOfText None refusal = ⊤
TellsOfText (Some text) (Text number cause) = IsFirstFaultOfJobs text (Text number cause)
TellsOfText (Some text) Lost = (jobs : List Job) × IsTextOf (Some text) jobs
TellsOfText (Some text) _ = ⊤

-- what the reading of jobs may be refused
abbrev pub IsReadingRefusal : Refusal → Type 0
IsReadingRefusal Memory = Unit {0}
IsReadingRefusal (Text number cause) = Unit {0}
IsReadingRefusal Read = Unit {0}
IsReadingRefusal _ = ⊥

-- what work on a text of jobs may be refused
abbrev pub IsWorkRefusal : Refusal → Type 0
IsWorkRefusal BadSize = Unit {0}
IsWorkRefusal Lost = Unit {0}
IsWorkRefusal Write = Unit {0}
IsWorkRefusal refusal = IsReadingRefusal refusal

-- how the reading behind an answer ended, by what is answered: nothing was read where a size is out of its range
abbrev pub EndsReadingOrUnread : {A : Type 0} → Result A Refusal → (old new : SourceState) → Type 0
EndsReadingOrUnread (Err BadSize) old new = new.failures ≡ old.failures
EndsReadingOrUnread result old new = EndsReadingFor result old new
