-- What a seat of an arena that carries values has seen of them, in words of queues of values.
use Rattle.std.specs.Prelude.{Bool, true, List, [], ◌∷◌, ◌++◌}
use Rattle.carriers.specs.declared.items.ItemOf.{ItemOf}
use Rattle.carriers.specs.Deeds.{Deed, did_push, did_pop, did_shut, item, own_deeds}
use Rattle.carriers.specs.Knowledge.{KnownOf}
use Rattle.node_arena.specs.Deeds.{pushed, popped, closed}
use Rattle.node_arena.specs.Deeds as slots
use Rattle.node_arena.specs.declared.seats.Seat.{Seat}
use Rattle.node_arena.specs.Seats.{deeds_of, view}

module _ {T : Type 0} where
  -- the deeds of an arena, from a queue with these values on: a pop takes the value in front, where there is one
  abbrev pub told : List (ItemOf T) → List (slots.Deed T) → List (Deed T)
  told values [] = []
  told values (pushed n x ∷ ds) = did_push n x ∷ told (values ++ item n x ∷ []) ds
  told [] (popped n t ∷ ds) = did_pop n (item t.from t.value) ∷ told [] ds
  told (front ∷ values) (popped n t ∷ ds) = did_pop n front ∷ told values ds
  told values (closed n ∷ ds) = did_shut n ∷ told values ds

  -- the values that they leave
  abbrev pub left_by : List (ItemOf T) → List (slots.Deed T) → List (ItemOf T)
  left_by values [] = values
  left_by values (pushed n x ∷ ds) = left_by (values ++ item n x ∷ []) ds
  left_by [] (popped n t ∷ ds) = left_by [] ds
  left_by (front ∷ values) (popped n t ∷ ds) = left_by values ds
  left_by values (closed n ∷ ds) = left_by values ds

  -- whether they leave the queue shut
  abbrev pub shut_by : Bool → List (slots.Deed T) → Bool
  shut_by shut [] = shut
  shut_by shut (pushed n x ∷ ds) = shut_by shut ds
  shut_by shut (popped n t ∷ ds) = shut_by shut ds
  shut_by shut (closed n ∷ ds) = shut_by true ds

  -- the history of values that a seat has seen
  abbrev pub seen_by : Seat T → List (Deed T)
  seen_by s = told [] (deeds_of s)

  -- what a seat of an arena that carries values knows of them
  abbrev pub known_by : Seat T → KnownOf T
  known_by s = record { number = (view s).number; seen = seen_by s; mine = own_deeds (view s).number (seen_by s); notes = (view s).notes }
