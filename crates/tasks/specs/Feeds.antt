-- What a feed gave.
use Rattle.std.specs.Prelude.{List, [], ◌∷◌, ◌++◌, Option, Some, None}
use Rattle.tasks.specs.declared.answers.Done.{Done}

-- a feed stands as before where it gave none, and else as after one task more
abbrev pub StandsAfter : {T A : Type 0} → (stands : List T → List (Done A) → Type 0) → List T → List (Done A) → Option T → Type 0
StandsAfter stands given told None = stands given told
StandsAfter stands given told (Some task) = stands (given ++ task ∷ []) told
