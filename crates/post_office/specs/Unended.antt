-- An office that wasn't closed.
use Rattle.std.specs.Prelude.{◌≡◌, List}
use Rattle.std.specs.List.{All}
use Rattle.carriers.specs.declared.queues.Carrier.{Ghosts}
use Rattle.shared_queue.specs.Queues.{queue_of}
use Rattle.shared_queue.specs.declared.sender.Sender.{Sender}
use Rattle.shared_queue.specs.declared.receiver.Receiver.{Receiver}
use Rattle.post_office.specs.declared.offices.PostOffice.{PostOffice}
use Rattle.post_office.specs.declared.ends.Unended.{Unended}
use Rattle.post_office.specs.declared.ends.Unended.TheVariants.{InUse, Memory, Raced, Unclosed}
use Rattle.post_office.specs.Offices.{office_queue, seats_of}

module _ {C A S : Type 0} {carrier : Ghosts C A S} where
  -- the office comes back with its senders and receivers, as they were; or its queue, shared or not, with their seats
  abbrev pub GivesBack : PostOffice C A S carrier → List (Sender C A S carrier) → List (Receiver C A S carrier) → Unended C A S carrier → Type 0
  GivesBack o ss rs (InUse same senders receivers) = (same ≡ o) × (senders.items ≡ ss) × (receivers.items ≡ rs)
  GivesBack o ss rs (Memory same senders receivers) = (same ≡ o) × (senders.items ≡ ss) × (receivers.items ≡ rs)
  GivesBack o ss rs (Raced queue seats) =
      (queue_of queue.value ≡ office_queue o) × (seats.items ≡ seats_of o ss rs) × All (carrier.is_seat (queue_of queue.value)) seats.items
  GivesBack o ss rs (Unclosed queue seats) =
      (queue ≡ office_queue o) × (seats.items ≡ seats_of o ss rs) × All (carrier.is_seat queue) seats.items
