-- What is left of a queue that was closed.
use Rattle.std.specs.Prelude.{◌≡◌, ℕ, Bool, List, Option}
use Rattle.std.specs.Iterator.{YieldsFirst}
use Rattle.history.specs.declared.operations.Taken.{Taken}
use Rattle.history.specs.declared.rests.Rest.{Rest}

-- the values left, from the front
abbrev pub left_of : Rest → List Taken
left_of r = r.left.rest.items

-- how many values were taken
abbrev pub taken_of : Rest → ℕ
taken_of r = r.taken

-- whether the seats handed in made all pushes and pops and, where the queue was shut, the shut
abbrev pub whole_of : Rest → Bool
whole_of r = r.whole

-- whether the queue was shut
abbrev pub was_shut_of : Rest → Bool
was_shut_of r = r.was_shut

-- the front value was given, and the others are left; or none was left; and all else is as before
abbrev pub GivesNext : Rest → Option Taken → Rest → Type 0
GivesNext r front r' = YieldsFirst left_of r front r' × (taken_of r' ≡ taken_of r) × (whole_of r' ≡ whole_of r) × (was_shut_of r' ≡ was_shut_of r)
