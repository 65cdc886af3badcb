-- Senders and receivers of a channel.
use Rattle.carriers.specs.declared.queues.Carrier.{Ghosts}
use Rattle.shared_queue.specs.Queues.{queue_of}
use Rattle.shared_queue.specs.declared.sender.Sender.{Sender}
use Rattle.shared_queue.specs.declared.receiver.Receiver.{Receiver}
use Rattle.shared_queue.specs.declared.sides.Side.{Side}

module _ {C A S : Type 0} {carrier : Ghosts C A S} where
  -- the seat that ends a side, as that was made
  abbrev pub side_seat : Side C A S carrier → S
  side_seat s = s.given.value

  -- the queue of a sender
  abbrev pub sender_queue : Sender C A S carrier → C
  sender_queue h = queue_of h.queue.value

  -- its side, which all senders share
  abbrev pub sender_side : Sender C A S carrier → Side C A S carrier
  sender_side h = h.side.value

  -- its seat
  abbrev pub sender_seat : Sender C A S carrier → S
  sender_seat h = h.seat

  -- the queue of a receiver
  abbrev pub receiver_queue : Receiver C A S carrier → C
  receiver_queue h = queue_of h.queue.value

  -- its side, which all receivers share
  abbrev pub receiver_side : Receiver C A S carrier → Side C A S carrier
  receiver_side h = h.side.value

  -- its seat
  abbrev pub receiver_seat : Receiver C A S carrier → S
  receiver_seat h = h.seat
