-- What is left of an arena that carried values, and what its seats and its history say of that.
use Rattle.std.specs.Prelude.{◌≡◌, false, List, [], ◌∷◌, map, length, ◌≤◌, Option, Some, None}
use Rattle.history.specs.declared.rests.Rest.{Rest}
use Rattle.history.specs.Rests.{left_of, taken_of, whole_of, was_shut_of}
use Rattle.history.specs.Ends.{Closes}
use Rattle.node_arena.specs.declared.leftovers.LeftValue.{LeftValue}
use Rattle.node_arena.specs.declared.leftovers.LeftValues.{LeftValues}
use Rattle.node_arena.specs.declared.seats.Seat.{Seat}
use Rattle.node_arena.specs.Arenas.{Arena}
use Rattle.node_arena.specs.Deeds.{Item, item, Deed, Runs, Matches}
use Rattle.node_arena.specs.ValuesLeft.{values_of}
use Rattle.node_arena.specs.Ends.{EachBegins}
use Rattle.node_arena.specs.Seats.{known_of, permits_of}

module _ {T : Type 0} where
  -- the numbers left, each of which names a slot, and what else is told of the end
  abbrev pub rest_in : LeftValues T → Rest
  rest_in l = l.rest

  -- what lies in each slot
  abbrev pub slots_in : LeftValues T → List (Option T)
  slots_in l = l.slots.items

  -- the values left, the front one first, each with the number of the seat that pushed it
  abbrev pub values_in : LeftValues T → List (Item T)
  values_in l = values_of (slots_in l) (left_of (rest_in l))

  -- the front one was given, and the others are left; or none was left
  abbrev pub GivesFront : LeftValues T → Option (LeftValue T) → LeftValues T → Type 0
  GivesFront l None l' = (values_in l ≡ []) × (values_in l' ≡ [])
  GivesFront l (Some front) l' = values_in l ≡ item front.from front.value ∷ values_in l'

-- all else that is told of the end is as before
pub record KeepsTold {T : Type 0} (l l' : LeftValues T) : Type 0 where
  pub taken : taken_of (rest_in l') ≡ taken_of (rest_in l)
  pub whole : whole_of (rest_in l') ≡ whole_of (rest_in l)
  pub shut : was_shut_of (rest_in l') ≡ was_shut_of (rest_in l)

-- an arena that carries values was closed by these seats: of its numbers that says what it says of any queue. The history of
-- its values goes one by one with that of the numbers, begins with what each seat had seen of it, and leads to the values left,
-- of which there are no more than nodes
pub record ClosesValues {T : Type 0} (r : Arena) (seats : List (Seat T)) (left : LeftValues T) : Type 0 where
  pub closes : Closes (permits_of r) (map known_of seats) (rest_in left)
  pub deeds : List (Deed T)
  pub matches : Matches closes.history deeds
  pub runs : Runs [] false deeds (values_in left) (was_shut_of (rest_in left))
  pub begins : EachBegins seats deeds
  pub few : length (values_in left) ≤ r.plan.setup.size
