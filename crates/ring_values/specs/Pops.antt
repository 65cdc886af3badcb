-- What a value that comes out of its slot leaves.
use Rattle.std.specs.Prelude.{◌≡◌, Some}
use Rattle.history.specs.declared.operations.Taken.{Taken}
use Rattle.carriers.specs.declared.items.ItemOf.{ItemOf}
use Rattle.ring_queue.specs.declared.queue.RingQueue.{RingQueue}
use Rattle.ring_queue.specs.declared.seats.Seat.{Seat}
use Rattle.ring_queue.specs.Hands.{HasSlot, KeepsKnown}
use Rattle.ring_queue.specs.Seats.{HasNoSlot}
use Rattle.ring_queue.specs.Queues.{IsRingSeat}

-- the value of what was popped came out of its slot, which was given back
pub record TakesOut {T : Type 0} (r : RingQueue T) (s t : Seat T) (taken : Taken) (front : ItemOf T) : Type 0 where
  pub ready : IsRingSeat r t
  pub keeps : KeepsKnown s t
  pub none_out : HasNoSlot t
  pub from : front.from ≡ taken.from
  pub value : HasSlot r.plan s taken.body (Some front.value)
