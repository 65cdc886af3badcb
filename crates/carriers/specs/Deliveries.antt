-- What takers got of what givers pushed.
use Rattle.std.specs.Prelude.{ℕ, cond, nat_eq, List, [], ◌∷◌}
use Rattle.std.specs.List.{flat_map}
use Rattle.carriers.specs.declared.items.ItemOf.{ItemOf}
use Rattle.carriers.specs.Deeds.{Deed, did_push, did_pop, did_shut}

module _ {A : Type 0} where
  -- the value that a deed pushes, if it pushes one
  abbrev pub value_sent : Deed A → List A
  value_sent (did_push seat value) = value ∷ []
  value_sent (did_pop seat front) = []
  value_sent (did_shut seat) = []

  -- a value, if this giver pushed it
  abbrev pub value_of : (giver : ℕ) → ItemOf A → List A
  value_of giver front = cond (nat_eq front.from giver) (front.value ∷ []) []

  -- the value of this giver that a deed pops, if it pops one
  abbrev pub value_taken : (giver : ℕ) → Deed A → List A
  value_taken giver (did_push seat value) = []
  value_taken giver (did_pop seat front) = value_of giver front
  value_taken giver (did_shut seat) = []

  -- the values that deeds push, in order
  abbrev pub sent : List (Deed A) → List A
  sent ds = flat_map value_sent ds

  -- the values of a giver that deeds pop, in order
  abbrev pub taken_of : (giver : ℕ) → List (Deed A) → List A
  taken_of giver ds = flat_map (value_taken giver) ds

  -- the values of a giver among these, in order
  abbrev pub values_of : (giver : ℕ) → List (ItemOf A) → List A
  values_of giver items = flat_map (value_of giver) items
