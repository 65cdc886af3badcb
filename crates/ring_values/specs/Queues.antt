-- A queue of values on a ring, as a queue with seats.
use Rattle.std.specs.Prelude.{List}
use Rattle.history.specs.Seats.{Permit}
use Rattle.ring_queue.specs.declared.queue.RingQueue.{RingQueue}
use Rattle.ring_queue.specs.declared.seats.Seat.{Seat}
use Rattle.ring_queue.specs.Plans.{Layout}
use Rattle.ring_queue.specs.Seats.{HasNoSlot}
use Rattle.ring_queue.specs.Queues.{IsRingSeat, permits_in}
use Rattle.ring_values.specs.declared.queue.RingValues.{RingValues}

module _ {T : Type 0} where
  -- the ring of a queue
  abbrev pub ring_of : RingValues T → RingQueue T
  ring_of q = q.ring

  -- what the ring of a queue was made for
  abbrev pub plan_of : RingValues T → Layout
  plan_of q = q.ring.plan

  -- what each seat of a queue may do
  abbrev pub permits_of : RingValues T → List Permit
  permits_of q = permits_in (ring_of q)

  -- a seat of a queue, in no call, with no slot
  pub record IsQueueSeat (q : RingValues T) (s : Seat T) : Type 0 where
    pub ready : IsRingSeat (ring_of q) s
    pub none_out : HasNoSlot s
