-- What becomes of tasks that were left.
use Rattle.std.specs.Prelude.{◌≡◌, List}
use Rattle.std.specs.List.{AllZip}
use Rattle.tasks.specs.declared.answers.Outcome.{Outcome}
use Rattle.tasks.specs.declared.answers.Outcome.TheVariants.{Answered, Left}

module _ {T A : Type 0} (answers : T → A → Type 0) where
  -- an answer is that which was told, or one of the task that was left
  abbrev pub IsSettled : Outcome T A → A → Type 0
  IsSettled (Answered a) b = b ≡ a
  IsSettled (Left t) b = answers t b

  -- each outcome has its answer, in this order
  abbrev pub AreSettled : List (Outcome T A) → List A → Type 0
  AreSettled = AllZip IsSettled
