-- The words of places where seats lie.
use Rattle.std.specs.Prelude.{◌≡◌, ℕ, ◌<◌, List, length, slice_index}
use Rattle.history.specs.Seats.{Permit}
use Rattle.seat_pool.specs.declared.parts.Part.{Part}
use Rattle.seat_pool.specs.Parts.{number_of, HasPart}

-- each word is the number of the part of the seat with the number at its place
pub record AreWords (permits : List Permit) (numbers words : List ℕ) : Type 0 where
  pub sized : length words ≡ length numbers
  pub parts : (i : ℕ) → i < length words → (part : Part) × (slice_index words i ≡ number_of part) × HasPart permits (slice_index numbers i) part
