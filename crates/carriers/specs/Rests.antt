-- What is left of a queue of values that was closed.
use Rattle.std.specs.Prelude.{◌≡◌, ℕ, Bool, List, Option}
use Rattle.std.specs.Iterator.{YieldsFirst}
use Rattle.carriers.specs.declared.items.ItemOf.{ItemOf}
use Rattle.carriers.specs.declared.rests.RestOf.{RestOf}

module _ {A : Type 0} where
  -- the values left, from the front
  abbrev pub left_in : RestOf A → List (ItemOf A)
  left_in r = r.left.rest.items

  -- how many values were taken
  abbrev pub taken_in : RestOf A → ℕ
  taken_in r = r.taken

  -- whether the seats handed in made all pushes and pops and, where the queue was shut, the shut
  abbrev pub whole_in : RestOf A → Bool
  whole_in r = r.whole

  -- whether the queue was shut
  abbrev pub was_shut_in : RestOf A → Bool
  was_shut_in r = r.was_shut

  -- the front value was given, and the others are left; or none was left; and all else is as before
  abbrev pub GivesNextOf : RestOf A → Option (ItemOf A) → RestOf A → Type 0
  GivesNextOf r front r' = YieldsFirst left_in r front r' × (taken_in r' ≡ taken_in r) × (whole_in r' ≡ whole_in r) × (was_shut_in r' ≡ was_shut_in r)
