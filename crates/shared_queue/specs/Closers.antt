-- What shuts a channel's queue where one of its sides ends.
use Rattle.carriers.specs.declared.queues.Carrier.{Ghosts}
use Rattle.shared_queue.specs.Queues.{queue_of}
use Rattle.shared_queue.specs.declared.closers.Closer.{Closer}

module _ {C A S : Type 0} {carrier : Ghosts C A S} where
  -- the queue that a closer shuts
  abbrev pub closer_queue : Closer C A S carrier → C
  closer_queue c = queue_of c.queue.value

  -- its seat
  abbrev pub closer_seat : Closer C A S carrier → S
  closer_seat c = c.seat
