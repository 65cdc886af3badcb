-- The rows of results, and their kinds.
use Rattle.std.proofs.Common.{◌≡◌, ℕ, List, [], ◌∷◌, length, map, refl, sym, ap, ◌∙◌}
use Rattle.std.proofs.lemmas.List.{length-map}
use Rattle.job_results.specs.declared.jobs.JobKind.{JobKind}
use Rattle.job_results.specs.declared.results.JobResult.{JobResult}
use Rattle.job_results.specs.Jobs.{kind_of}
use Rattle.job_results.specs.Results.{job_in, row_of}
use Rattle.report.specs.Counts.{counts}
use Rattle.report.specs.JobKinds.{same_job_kind}
use Rattle.report.specs.ResultsTable.{results_parts_text, results_text}

-- the kinds of the jobs are those of the rows
kinds_of_rows : (results : List JobResult) → map (λ r. kind_of (job_in r)) results ≡ map (λ row. row.kind) (map row_of results)
kinds_of_rows [] = refl
kinds_of_rows (r ∷ results) = ap (λ (kinds : List JobKind). kind_of (job_in r) ∷ kinds) (kinds_of_rows results)

-- a table with the counts of its results is that of their rows
pub results-counted : (results : List JobResult) (found : List (JobKind × ℕ)) → found ≡ counts same_job_kind (map (λ r. kind_of (job_in r)) results)
    → results_parts_text (length results) (map row_of results) found ≡ results_text (map row_of results)
results-counted results found e =
    let kinds : found ≡ counts same_job_kind (map (λ row. row.kind) (map row_of results)) = e ∙ ap (counts same_job_kind) (kinds_of_rows results) in
    λ i. results_parts_text (sym (length-map results row_of) i) (map row_of results) (kinds i)
