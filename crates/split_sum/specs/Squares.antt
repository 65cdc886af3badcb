-- Sums of squares.
use Rattle.std.specs.Prelude.{◌≡◌, ℕ, zero, suc, ◌+◌, ◌*◌, Result, Ok, Err}
use Rattle.split_sum.specs.declared.ranges.Range.{Range}
use Rattle.split_sum.specs.declared.ranges.Part.{Part}
use Rattle.split_sum.specs.declared.ranges.Part.TheVariants.{Sum, Halves}
use Rattle.split_sum.specs.declared.ranges.NoRoom.{NoRoom}

-- the squares of so many numbers, from this one on, together
abbrev pub squares : (first many : ℕ) → ℕ
squares first zero = 0
squares first (suc many) = squares first many + (first + many) * (first + many)

-- those of a range
abbrev pub squares_of : Range → ℕ
squares_of r = squares r.first r.many

-- a range comes to the sum of its squares, or to two ranges whose squares are as much together; or there is no room for a number
abbrev pub IsPartOf : Range → Result Part NoRoom → Type 0
IsPartOf r (Ok (Sum sum)) = sum ≡ squares_of r
IsPartOf r (Ok (Halves one other)) = squares_of one + squares_of other ≡ squares_of r
IsPartOf r (Err failed) = Unit {0}
