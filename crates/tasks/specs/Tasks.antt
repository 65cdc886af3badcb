-- What is told of tasks: their answers, or the tasks themselves.
use Rattle.std.specs.Prelude.{◌≡◌, List, Some, slice_get}
use Rattle.std.specs.List.{AllZip}
use Rattle.tasks.specs.declared.answers.Done.{Done}
use Rattle.tasks.specs.declared.answers.Outcome.{Outcome}
use Rattle.tasks.specs.declared.answers.Outcome.TheVariants.{Answered, Left}
use Rattle.tasks.specs.declared.runs.Numbered.{Numbered}

-- a task stands at its number among these
abbrev pub IsOf : {T : Type 0} → List T → Numbered T → Type 0
IsOf tasks x = slice_get tasks x.number ≡ Some x.task

module _ {T A : Type 0} (answers : T → A → Type 0) where
  -- a result is of this task: it has its number, and its answer
  pub record IsDoneOf (x : Numbered T) (d : Done A) : Type 0 where
    pub number : d.number ≡ x.number
    pub answer : answers x.task d.answer

  -- what became of a task: it has its own answer, or is handed back itself
  abbrev pub Tells : T → Outcome T A → Type 0
  Tells t (Answered a) = answers t a
  Tells t (Left u) = u ≡ t

  -- of each of these tasks, in this order, it is told once what became of it
  abbrev pub AreTold : List T → List (Outcome T A) → Type 0
  AreTold = AllZip Tells
