-- Shares of a queue whose calls are stepped.
use Rattle.carriers.specs.declared.queues.Carrier.{Ghosts}
use Rattle.shared_queue.specs.declared.share.Share.{Share}
use Rattle.shared_queue.specs.declared.stepped.SteppedQueue.{SteppedQueue}
use Rattle.shared_queue.specs.Stepped.{stepped_queue}

module _ {C A S : Type 0} {carrier : Ghosts C A S} where
  -- the queue of a share, with the words of its calls
  abbrev pub stepped_at : Share C A S carrier → SteppedQueue C
  stepped_at h = h.queue.value

  -- the queue within
  abbrev pub share_queue : Share C A S carrier → C
  share_queue h = stepped_queue (stepped_at h)

  -- its seat
  abbrev pub share_seat : Share C A S carrier → S
  share_seat h = h.seat
