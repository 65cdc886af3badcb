-- The comparison of kinds of jobs tells equal ones.
use Rattle.std.proofs.Common.{◌≡◌, true, refl}
use Rattle.job_results.specs.declared.jobs.JobKind.{JobKind}
use Rattle.job_results.specs.declared.jobs.JobKind.TheVariants.{Add, Mul, Div, Len}
use Rattle.job_results.specs.contracts.jobs.JobKindPartialEq.TheImpl as block
use Rattle.report.specs.JobKinds.{same_job_kind}

-- a fact of each kind
by_kind : (P : JobKind → Type 0) → P Add → P Mul → P Div → P Len → (k : JobKind) → P k
by_kind P a b c d Add = a
by_kind P a b c d Mul = b
by_kind P a b c d Div = c
by_kind P a b c d Len = d

-- a kind is the same as itself
pub same_job_kind_yes : (a : JobKind) → same_job_kind a a ≡ true
same_job_kind_yes = by_kind (λ a. same_job_kind a a ≡ true) refl refl refl refl

-- kinds that are the same are equal
pub same_job_kind_only : (a b : JobKind) → same_job_kind a b ≡ true → a ≡ b
same_job_kind_only Add = by_kind (λ b. same_job_kind Add b ≡ true → Add ≡ b) (λ _. refl) (λ e. cc e) (λ e. cc e) (λ e. cc e)
same_job_kind_only Mul = by_kind (λ b. same_job_kind Mul b ≡ true → Mul ≡ b) (λ e. cc e) (λ _. refl) (λ e. cc e) (λ e. cc e)
same_job_kind_only Div = by_kind (λ b. same_job_kind Div b ≡ true → Div ≡ b) (λ e. cc e) (λ e. cc e) (λ _. refl) (λ e. cc e)
same_job_kind_only Len = by_kind (λ b. same_job_kind Len b ≡ true → Len ≡ b) (λ e. cc e) (λ e. cc e) (λ e. cc e) (λ _. refl)

compared : (a b : JobKind) → block.ghosts.eq a b ≡ same_job_kind a b
compared Add = by_kind (λ b. block.ghosts.eq Add b ≡ same_job_kind Add b) refl refl refl refl
compared Mul = by_kind (λ b. block.ghosts.eq Mul b ≡ same_job_kind Mul b) refl refl refl refl
compared Div = by_kind (λ b. block.ghosts.eq Div b ≡ same_job_kind Div b) refl refl refl refl
compared Len = by_kind (λ b. block.ghosts.eq Len b ≡ same_job_kind Len b) refl refl refl refl

-- what `==` computes
pub equals_is : block.ghosts.eq ≡ same_job_kind
equals_is = λ j a b. compared a b j
