-- Which numbers of a history a timeline shows, and in which columns.
use Rattle.std.specs.Prelude.{ℕ, ◌+◌, ◌-◌, ◌*◌, ◌/◌, ◌≤◌, min, max, List, [], ◌∷◌, Option, Some, None, Bool, true, ◌&&◌, ◌||◌, nat_eq, nat_le}
use Rattle.history.specs.declared.operations.Stamped.{Stamped}
use Rattle.show_engine.specs.declared.frames.View.{View}
use Rattle.show_engine.specs.Frames.{end_of, width_of}
use Rattle.show_engine.specs.declared.scales.Scale.{Scale}

-- a number, and 0 where there is none
abbrev pub or_none : Option ℕ → ℕ
or_none None = 0
or_none (Some n) = n

-- the greatest number of an operation
abbrev pub greatest_of : Stamped → ℕ
greatest_of o = max o.first (max (or_none o.last) (or_none o.at))

-- the greatest number in a history; 0 where there are no operations
abbrev pub end_of_history : List Stamped → ℕ
end_of_history [] = 0
end_of_history (o ∷ ops) = max (greatest_of o) (end_of_history ops)

-- the scale of a view of a history that ends at a number: half of a row has the bars
abbrev pub scale_of : View → (last : ℕ) → Scale
scale_of view last = record { width = width_of view; columns = width_of view / 2; from = max view.from 1; to = min (end_of view) last; actor = view.actor }

-- the column of a number that is shown
abbrev pub column_of : Scale → (number : ℕ) → ℕ
column_of s number = (number - s.from) * s.columns / (s.to - s.from + 1)

-- whether an operation has a number that is shown, or none after that at which it begins
abbrev pub reaches : Scale → Option ℕ → Bool
reaches s None = true
reaches s (Some last) = nat_le s.from last

-- whether an operation is shown: it begins no later than the last number that is, ends no earlier than the first one, and is of
-- the actor that is asked for, where one is
abbrev pub is_shown : Scale → Stamped → Bool
is_shown s o = nat_le o.first s.to && reaches s o.last && (nat_eq s.actor 0 || nat_eq o.actor s.actor)

-- a scale's columns fit into a line
pub record IsFitting (s : Scale) : Type 0 where
  pub narrow : s.width ≤ 190
  pub some : 40 ≤ s.width
  pub half : s.columns ≤ 95
  pub one : 1 ≤ s.columns
