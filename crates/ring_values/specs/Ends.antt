-- The end of a queue of values on a ring: the memory that it needs, and what is left.
use Rattle.std.specs.Prelude.{List, map}
use Rattle.history.specs.Seats.{Permit}
use Rattle.history.specs.Rests.{taken_of, whole_of, was_shut_of}
use Rattle.carriers.specs.Knowledge.{KnownOf}
use Rattle.carriers.specs.Ends.{ClosesWith}
use Rattle.ring_queue.specs.Ends.{HasRoomFor}
use Rattle.value_queue.specs.Runs.{as_item}
use Rattle.ring_values.specs.declared.ends.Room.{Room}
use Rattle.ring_values.specs.declared.queue.RingValues.{RingValues}
use Rattle.ring_values.specs.declared.remains.LeftValues.{LeftValues}
use Rattle.ring_values.specs.Queues.{ring_of}
use Rattle.ring_values.specs.Remains.{rest_in, values_in}

-- a queue was closed by these seats, with what is left in its ring
abbrev pub ClosesLeft : {T : Type 0} → List Permit → List (KnownOf T) → LeftValues T → Type 0
ClosesLeft permits seats left = ClosesWith permits seats (map as_item (values_in left)) (taken_of (rest_in left)) (whole_of (rest_in left)) (was_shut_of (rest_in left))

-- there is room for a number, a slot and a value of each slot of a ring
pub record HasRoom {T : Type 0} (q : RingValues T) (room : Room T) : Type 0 where
  pub numbers : HasRoomFor (ring_of q) room.numbers
  pub slots : HasRoomFor (ring_of q) room.slots
  pub values : HasRoomFor (ring_of q) room.values
