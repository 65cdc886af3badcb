-- What is told of the ranges of a sum.
use Rattle.std.specs.Prelude.{◌≡◌, ℕ, ◌+◌, false, List, Result, Ok, Err}
use Rattle.std.specs.List.{All, sum_by}
use Rattle.tasks.specs.declared.answers.Done.{Done}
use Rattle.split_sum.specs.declared.ranges.Range.{Range}
use Rattle.split_sum.specs.declared.ranges.Part.{Part}
use Rattle.split_sum.specs.declared.ranges.Part.TheVariants.{Sum, Halves}
use Rattle.split_sum.specs.declared.ranges.NoRoom.{NoRoom}
use Rattle.split_sum.specs.declared.sums.Adding.{Adding}
use Rattle.split_sum.specs.Squares.{squares_of}

-- the sum that an answer tells
abbrev pub sum_told : Result Part NoRoom → ℕ
sum_told (Ok (Sum sum)) = sum
sum_told _ = 0

-- the squares of the ranges that an answer makes
abbrev pub sum_made : Result Part NoRoom → ℕ
sum_made (Ok (Halves one other)) = squares_of one + squares_of other
sum_made _ = 0

-- an answer tells a part
abbrev pub IsPart : Result Part NoRoom → Type 0
IsPart (Ok part) = Unit {0}
IsPart (Err failed) = ⊥

-- the ranges that were given and those that wait are what they began with and what was made since; each sum that was told was added
pub record Adds (all : Range) (waiting : List Range) (total : ℕ) (given : List Range) (told : List (Done (Result Part NoRoom))) : Type 0 where
  pub ranges : sum_by squares_of given + sum_by squares_of waiting ≡ squares_of all + sum_by (λ d. sum_made d.answer) told
  pub sums : total ≡ sum_by (λ d. sum_told d.answer) told
  pub parts : All (λ d. IsPart d.answer) told

-- and so it is as long as nothing failed
abbrev pub AddsSo : Adding → List Range → List (Done (Result Part NoRoom)) → Type 0
AddsSo a given told = a.failed ≡ false → Adds a.all a.waiting.items a.total given told
