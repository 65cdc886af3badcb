-- A seat with a share of its queue.
use Rattle.carriers.specs.declared.queues.Carrier.{Ghosts}
use Rattle.owned.specs.declared.seats.OwnedSeat.{OwnedSeat}

module _ {C A S : Type 0} {carrier : Ghosts C A S} where
  -- the queue of a seat that owns a share of it
  abbrev pub queue_of : OwnedSeat C A S carrier → C
  queue_of s = s.queue.value

  -- the seat that comes with a share
  abbrev pub seat_of : OwnedSeat C A S carrier → S
  seat_of s = s.seat
