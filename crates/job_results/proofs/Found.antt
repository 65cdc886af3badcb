-- Results that are found: at most one a job, in the order of the jobs.
use Rattle.std.proofs.Common.{◌≡◌, ◌∙◌, ap, refl, ℕ, zero, suc, ◌+◌, true, false, eqb-true, eq-eqb, List, [], ◌∷◌, length, map, replicate, Option, Some, None, IsTrue, slice_set, arith}
use Rattle.std.specs.List.{slice_get, list_any, filter_map}
use Rattle.std.specs.Option.{is_some, is_none, IsSomeAnd}
use Rattle.std.specs.Cmp.Lexicographic.{pointwise}
use Rattle.job_results.specs.declared.jobs.Job.{Job}
use Rattle.job_results.specs.declared.results.JobResult.{JobResult}
use Rattle.job_results.specs.Jobs.{same_job, job_rows, kind_of, value_of}
use Rattle.job_results.specs.Results.{number_in, job_in, value_in, row_of}
use Rattle.job_results.specs.GatheredResults.{fits, are_found}
use Rattle.job_results.proofs.Same.{both, true_both, kind_of-same, value_of-same}

-- no results are results of any jobs
pub are_found-none : (first : ℕ) (jobs : List Job) → are_found first jobs (replicate (length jobs) None) ≡ true
are_found-none first [] = refl
are_found-none first (job ∷ jobs) = are_found-none (first + 1) jobs

-- with the result of the job at its place they stay results of these jobs
pub are_found-set : (first : ℕ) (jobs : List Job) (found : List (Option JobResult)) (place : ℕ) (r : JobResult) → are_found first jobs found ≡ true
    → number_in r ≡ first + place → IsSomeAnd (slice_get jobs place) (λ job. IsTrue (same_job (job_in r) job))
    → are_found first jobs (slice_set found place (Some r)) ≡ true
are_found-set first [] found place r all number same = absurd same
are_found-set first (j ∷ js) [] place r all number same = absurd (cc all)
are_found-set first (j ∷ js) (o ∷ os) zero r all number same = true_both _ _ (true_both _ _ (eq-eqb (number_in r) first (omega (arith, number))) same) (both _ _ all).1
are_found-set first (j ∷ js) (o ∷ os) (suc place) r all number same = true_both _ _ (both _ _ all).0 (are_found-set (first + 1) js os place r (both _ _ all).1 (omega (arith, number)) same)

-- the row of a result of this job is the job's
row_of-fits : (number : ℕ) (job : Job) (r : JobResult) → fits number job (Some r) ≡ true → row_of r ≡ record { number = number; kind = kind_of job; value = value_of job }
row_of-fits number job r h =
    let same = (both _ _ h).1 in
    ap (λ n. record { number = n; kind = kind_of (job_in r); value = value_in r }) (eqb-true (number_in r) number (both _ _ h).0)
    ∙ ap (λ k. record { number = number; kind = k; value = value_in r }) (kind_of-same (job_in r) job same)
    ∙ ap (λ v. record { number = number; kind = kind_of job; value = v }) (r.right ∙ value_of-same (job_in r) job same)

-- where all are there, their rows are those of the jobs
pub rows_of-found : (first : ℕ) (jobs : List Job) (results : List JobResult) → are_found first jobs (map (λ r. Some r) results) ≡ true → map row_of results ≡ job_rows first jobs
rows_of-found first [] [] all = refl
rows_of-found first [] (r ∷ rs) all = absurd (cc all)
rows_of-found first (j ∷ js) [] all = absurd (cc all)
rows_of-found first (j ∷ js) (r ∷ rs) all = ap (λ row. row ∷ map row_of rs) (row_of-fits first j r (both _ _ all).0) ∙ ap
    (λ rows. record { number = first; kind = kind_of j; value = value_of j } ∷ rows) (rows_of-found (first + 1) js rs (both _ _ all).1)

-- where all are there, their jobs are those of the list
pub jobs_of-found : (first : ℕ) (jobs : List Job) (results : List JobResult) → are_found first jobs (map (λ r. Some r) results) ≡ true → pointwise same_job (map job_in results) jobs ≡ true
jobs_of-found first [] [] all = refl
jobs_of-found first [] (r ∷ rs) all = absurd (cc all)
jobs_of-found first (j ∷ js) [] all = absurd (cc all)
jobs_of-found first (j ∷ js) (r ∷ rs) all = true_both _ _ (both _ _ (both _ _ all).0).1 (jobs_of-found (first + 1) js rs (both _ _ all).1)

-- where none is missing, those that are there are all
pub all-there : (found : List (Option JobResult)) → list_any is_none found ≡ false → map (λ r. Some r) (filter_map (λ o. o) found) ≡ found
all-there [] h = refl
all-there (None ∷ os) h = absurd (cc h)
all-there (Some r ∷ os) h = ap (λ os. Some r ∷ os) (all-there os h)

-- where a result isn't there, there is none
pub none-there : (o : Option JobResult) → is_some o ≡ false → o ≡ None
none-there None h = refl
none-there (Some r) h = absurd (cc h)
