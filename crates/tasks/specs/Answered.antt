-- Tasks that were answered, each once.
use Rattle.std.specs.Prelude.{ℕ, suc, List, [], ◌∷◌, ◌++◌}
use Rattle.std.specs.List.{AllZip}
use Rattle.std.specs.List.Sorted.{IsPermutation}
use Rattle.carriers.specs.declared.items.ItemOf.{ItemOf}
use Rattle.tasks.specs.declared.answers.Done.{Done}
use Rattle.tasks.specs.declared.runs.Numbered.{Numbered}
use Rattle.tasks.specs.Tasks.{IsDoneOf}

-- these tasks with their numbers, in order from this number on
abbrev pub numbered : {T : Type 0} → ℕ → List T → List (Numbered T)
numbered n [] = []
numbered n (t ∷ ts) = record { number = n; task = t } ∷ numbered (suc n) ts

-- the value that was popped, or is left
abbrev pub value_in : {X : Type 0} → ItemOf X → X
value_in x = x.value

-- each of these tasks, under its number from 0 on, has its own result among these, or is among those left; each once
pub record AnsweredOnce {T A : Type 0} (answers : T → A → Type 0) (tasks : List T) (results : List (Done A)) (left : List (Numbered T)) : Type 0 where
  pub ran : List (Numbered T)
  pub dones : List (Done A)
  pub each : AllZip (IsDoneOf answers) ran dones
  pub came : IsPermutation dones results
  pub all : IsPermutation (numbered 0 tasks) (ran ++ left)
