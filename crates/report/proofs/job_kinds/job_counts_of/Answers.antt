use Rattle.std.proofs.Common.{◌≤◌, unwrap_or, ap, ◌∙◌, arith}
use Rattle.job_results.specs.declared.jobs.JobKind.{JobKind}
use Rattle.job_results.specs.declared.results.JobResult.{JobResult}
use Rattle.job_results.specs.Jobs.{kind_of}
use Rattle.job_results.specs.Results.{job_in}
use Rattle.report.specs.JobKinds.{same_job_kind}
use Rattle.report.proofs.KindCounts.{counted_more, counted_fits}
use Rattle.report.proofs.SameJobKind.{same_job_kind_yes, same_job_kind_only, equals_is}
use Rattle.report.proofs.job_kinds.job_counts_of.Goals as goal

-- the kind of the job of a result
abbrev kind_in : JobResult → JobKind
kind_in r = kind_of (job_in r)

pub overflow_add-number : goal.overflow_add-number
overflow_add-number c =
    let fits : c.unwrap_or-number.result ≤ c.loop-result_of.result_of-index =
    counted_fits kind_in same_job_kind same_job_kind_yes same_job_kind_only c.args.results.now c.loop-result_of.result_of-index _ c.kind-kind.result _ _ c.loop-result_of-test.true equals_is
    c.loop-result_of.invariant (c.unwrap_or-number.ensures ∙ ap (λ o. unwrap_or o 0) (c.copied.ensures ∙ c.get.ensures.value)) in
    omega arith

pub loop-result_of-preserved : goal.loop-result_of-preserved
loop-result_of-preserved c =
    counted_more kind_in same_job_kind same_job_kind_yes same_job_kind_only c.args.results.now c.loop-result_of.result_of-index
    c.result_of-item.result _ c.kind-kind.result _ _ c.unwrap_or-number.result c.loop-result_of-test.true
    c.result_of-item.is equals_is (c.kind-kind.ensures ∙ ap kind_of c.job.ensures) c.loop-result_of.invariant
    (c.unwrap_or-number.ensures ∙ ap (λ o. unwrap_or o 0) (c.copied.ensures ∙ c.get.ensures.value)) c.in-Ok.ensures.entries
