-- The values left in a ring that was closed.
use Rattle.std.specs.Prelude.{◌≡◌, List, [], ◌∷◌, Option, Some, None}
use Rattle.history.specs.declared.rests.Rest.{Rest}
use Rattle.history.specs.Rests.{left_of, taken_of, whole_of, was_shut_of}
use Rattle.carriers.specs.declared.items.ItemOf.{ItemOf}
use Rattle.node_arena.specs.Deeds.{Item, item}
use Rattle.node_arena.specs.ValuesLeft.{values_of}
use Rattle.ring_values.specs.declared.remains.LeftValues.{LeftValues}

module _ {T : Type 0} where
  -- the numbers left, and what else is told of the end
  abbrev pub rest_in : LeftValues T → Rest
  rest_in l = l.rest

  -- what lies in each slot
  abbrev pub slots_in : LeftValues T → List (Option T)
  slots_in l = l.slots.items

  -- the values left, the front one first, each with the number of the seat that pushed it
  abbrev pub values_in : LeftValues T → List (Item T)
  values_in l = values_of (slots_in l) (left_of (rest_in l))

  -- the front one was given, and the others are left; or none was left
  abbrev pub GivesFront : LeftValues T → Option (ItemOf T) → LeftValues T → Type 0
  GivesFront l None l' = (values_in l ≡ []) × (values_in l' ≡ [])
  GivesFront l (Some front) l' = values_in l ≡ item front.from front.value ∷ values_in l'

-- all else that is told of the end is as before
pub record KeepsTold {T : Type 0} (l l' : LeftValues T) : Type 0 where
  pub taken : taken_of (rest_in l') ≡ taken_of (rest_in l)
  pub whole : whole_of (rest_in l') ≡ whole_of (rest_in l)
  pub shut : was_shut_of (rest_in l') ≡ was_shut_of (rest_in l)
