-- Jobs, their kinds and their values.
use Rattle.std.specs.Prelude.{ℕ, ◌+◌, ◌*◌, ◌/◌, if◌then◌else◌, nat_eq, Bool, false, ◌&&◌, List, [], ◌∷◌, string_eq, string_len}
use Rattle.job_results.specs.declared.jobs.Job.{Job}
use Rattle.job_results.specs.declared.jobs.Job.TheVariants.{Add, Mul, Div, Len}
use Rattle.job_results.specs.declared.jobs.JobKind.{JobKind}
use Rattle.job_results.specs.declared.jobs.JobKind.TheVariants.{Add as AddKind, Mul as MulKind, Div as DivKind, Len as LenKind}
use Rattle.job_results.specs.declared.jobs.Value.{Value}
use Rattle.job_results.specs.declared.jobs.Value.TheVariants.{Number, ByZero}

-- the kind of a job
abbrev pub kind_of : Job → JobKind
kind_of (Add a b) = AddKind
kind_of (Mul a b) = MulKind
kind_of (Div a b) = DivKind
kind_of (Len text) = LenKind

-- the whole quotient, and none by zero
abbrev pub quotient : (a b : ℕ) → Value
quotient a b = if nat_eq b 0 then ByZero else Number (a / b)

-- the value of a job
abbrev pub value_of : Job → Value
value_of (Add a b) = Number (a + b)
value_of (Mul a b) = Number (a * b)
value_of (Div a b) = quotient a b
value_of (Len text) = Number (string_len text)

-- whether two jobs are the same: of one kind, with the same numbers or the same text
abbrev pub same_job : Job → Job → Bool
same_job (Add a b) (Add c d) = nat_eq a c && nat_eq b d
same_job (Mul a b) (Mul c d) = nat_eq a c && nat_eq b d
same_job (Div a b) (Div c d) = nat_eq a c && nat_eq b d
same_job (Len s) (Len t) = string_eq s t
same_job _ _ = false

-- what is told of a result: the number of its job, the job's kind and its value
pub record Row : Type 0 where
  pub number : ℕ
  pub kind : JobKind
  pub value : Value

-- the rows of a list of jobs, the first of which has this number
abbrev pub job_rows : (first : ℕ) → List Job → List Row
job_rows first [] = []
job_rows first (job ∷ jobs) = record { number = first; kind = kind_of job; value = value_of job } ∷ job_rows (first + 1) jobs
