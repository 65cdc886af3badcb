-- Kinds of jobs.
use Rattle.std.specs.Prelude.{ℕ, Bool, true, false, List, codes}
use Rattle.job_results.specs.declared.jobs.JobKind.{JobKind}
use Rattle.job_results.specs.declared.jobs.JobKind.TheVariants.{Add, Mul, Div, Len}

-- the name of a kind of job
abbrev pub job_kind_text : JobKind → List ℕ
job_kind_text Add = codes "add"
job_kind_text Mul = codes "mul"
job_kind_text Div = codes "div"
job_kind_text Len = codes "len"

-- whether two kinds of jobs are the same
abbrev pub same_job_kind : JobKind → JobKind → Bool
same_job_kind Add Add = true
same_job_kind Mul Mul = true
same_job_kind Div Div = true
same_job_kind Len Len = true
same_job_kind _ _ = false
