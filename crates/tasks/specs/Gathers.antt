-- What became of tasks, by their numbers.
use Rattle.std.specs.Prelude.{ℕ, List, [], ◌∷◌, Option, Some, None, slice_set}
use Rattle.carriers.specs.declared.items.ItemOf.{ItemOf}
use Rattle.tasks.specs.declared.answers.Done.{Done}
use Rattle.tasks.specs.declared.answers.Outcome.{Outcome}
use Rattle.tasks.specs.declared.answers.Outcome.TheVariants.{Answered, Left}
use Rattle.tasks.specs.declared.runs.Numbered.{Numbered}
use Rattle.tasks.specs.declared.gathers.Gather.{Gather}

module _ {T A : Type 0} where
  -- the slots of a gather, one for each number
  abbrev pub slots_in : Gather T A → List (Option (Outcome T A))
  slots_in g = g.slots.items

  -- it is known what became of a slot's task
  abbrev pub IsFilled : Option (Outcome T A) → Type 0
  IsFilled None = ⊥
  IsFilled (Some outcome) = Unit {0}

  -- the slots, once each of these was put under its number, one after another
  abbrev pub fills : List (Option (Outcome T A)) → List (ℕ × Outcome T A) → List (Option (Outcome T A))
  fills slots [] = slots
  fills slots (p ∷ ps) = fills (slice_set slots p.0 (Some p.1)) ps

  -- what a result tells: of the task of its number, its answer
  abbrev pub told_done : Done A → ℕ × Outcome T A
  told_done d = (d.number, Answered d.answer)

  -- what is told of a task that was left: the task
  abbrev pub told_left : ItemOf (Numbered T) → ℕ × Outcome T A
  told_left x = (x.value.number, Left x.value.task)
