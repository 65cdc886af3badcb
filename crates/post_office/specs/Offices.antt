-- An office, its senders and its receivers.
use Rattle.std.specs.Prelude.{◌≡◌, List, [], ◌∷◌, ◌++◌, map}
use Rattle.std.specs.List.{All}
use Rattle.carriers.specs.declared.queues.Carrier.{Ghosts}
use Rattle.carriers.specs.Knowledge.{KnownOf}
use Rattle.shared_queue.specs.Queues.{queue_of}
use Rattle.shared_queue.specs.declared.sender.Sender.{Sender}
use Rattle.shared_queue.specs.declared.receiver.Receiver.{Receiver}
use Rattle.shared_queue.specs.Handles.{sender_queue, sender_seat, receiver_queue, receiver_seat}
use Rattle.post_office.specs.declared.offices.PostOffice.{PostOffice}

module _ {C A S : Type 0} {carrier : Ghosts C A S} where
  -- the queue of an office
  abbrev pub office_queue : PostOffice C A S carrier → C
  office_queue o = queue_of o.queue.value

  -- the seat by which it shuts
  abbrev pub office_seat : PostOffice C A S carrier → S
  office_seat o = o.seat

  -- the office, these senders and these receivers are of this queue
  pub record AreOf (queue : C) (o : PostOffice C A S carrier) (senders : List (Sender C A S carrier)) (receivers : List (Receiver C A S carrier)) : Type 0 where
    pub office : office_queue o ≡ queue
    pub senders_are : All (λ h. sender_queue h ≡ queue) senders
    pub receivers_are : All (λ h. receiver_queue h ≡ queue) receivers

  -- the seats of these senders, of these receivers and of the office, in this order
  abbrev pub seats_of : PostOffice C A S carrier → List (Sender C A S carrier) → List (Receiver C A S carrier) → List S
  seats_of o senders receivers = (map sender_seat senders ++ map receiver_seat receivers) ++ office_seat o ∷ []

  -- what they know
  abbrev pub known_by : PostOffice C A S carrier → List (Sender C A S carrier) → List (Receiver C A S carrier) → List (KnownOf A)
  known_by o senders receivers = map carrier.known (seats_of o senders receivers)
