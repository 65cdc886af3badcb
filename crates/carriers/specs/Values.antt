-- The values that deeds push and pop.
use Rattle.std.specs.Prelude.{List, [], ◌∷◌}
use Rattle.std.specs.List.{flat_map}
use Rattle.carriers.specs.declared.items.ItemOf.{ItemOf}
use Rattle.carriers.specs.Deeds.{Deed, did_push, did_pop, did_shut, item}

module _ {A : Type 0} where
  -- the value that a deed pushes, if it pushes one
  abbrev pub value_pushed : Deed A → List (ItemOf A)
  value_pushed (did_push seat value) = item seat value ∷ []
  value_pushed (did_pop seat front) = []
  value_pushed (did_shut seat) = []

  -- the value that a deed pops, if it pops one
  abbrev pub value_popped : Deed A → List (ItemOf A)
  value_popped (did_push seat value) = []
  value_popped (did_pop seat front) = front ∷ []
  value_popped (did_shut seat) = []

  -- the values pushed, in order
  abbrev pub values_pushed : List (Deed A) → List (ItemOf A)
  values_pushed ds = flat_map value_pushed ds

  -- the values popped, in order
  abbrev pub values_popped : List (Deed A) → List (ItemOf A)
  values_popped ds = flat_map value_popped ds
