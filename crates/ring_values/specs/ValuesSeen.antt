-- What a seat of a ring that carries values has seen of them, in words of queues of values.
use Rattle.std.specs.Prelude.{List, []}
use Rattle.carriers.specs.Deeds.{Deed, own_deeds}
use Rattle.carriers.specs.Knowledge.{KnownOf}
use Rattle.ring_queue.specs.declared.seats.Seat.{Seat}
use Rattle.ring_queue.specs.Seats.{deeds_of, known_of, view}
use Rattle.value_queue.specs.ValuesSeen.{told}
use Rattle.value_queue.specs.Sights.{Sight}

module _ {T : Type 0} where
  -- the history of values that a seat has seen
  abbrev pub seen_by : Seat T → List (Deed T)
  seen_by s = told [] (deeds_of s)

  -- what a seat of a ring that carries values knows of them
  abbrev pub known_by : Seat T → KnownOf T
  known_by s = record { number = (view s).number; seen = seen_by s; mine = own_deeds (view s).number (seen_by s); notes = (view s).notes }

-- what a seat of a ring shows
abbrev pub sight : {T : Type 0} → Seat T → Sight T
sight s = record { known = known_of s; deeds = deeds_of s }
