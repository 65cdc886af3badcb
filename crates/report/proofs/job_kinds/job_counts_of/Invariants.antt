use Rattle.std.proofs.Common.{◌≡◌, map, take}
use Rattle.job_results.specs.Jobs.{kind_of}
use Rattle.job_results.specs.Results.{job_in}
use Rattle.report.specs.JobKinds.{same_job_kind}
use Rattle.report.specs.Counts.{counts}
use Rattle.report.proofs.job_kinds.job_counts_of.Given as goal

abbrev pub invariant-loop-result_of : goal.invariant-loop-result_of
invariant-loop-result_of l =
    l.counts.entries ≡ counts same_job_kind (map (λ r. kind_of (job_in r)) (take l.result_of-index l.results))
