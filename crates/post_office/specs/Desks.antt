-- The seats of an office.
use Rattle.std.specs.Prelude.{List}
use Rattle.std.specs.List.{All}
use Rattle.history.specs.Seats.{Permit}
use Rattle.carriers.specs.Knowledge.{KnownOf}
use Rattle.shared_queue.specs.Seats.{IsGiver, IsTaker}
use Rattle.post_office.specs.declared.offices.Desks.{Desks}

-- these are seats of this queue, in no call: each receiver's may pop, and each other one may push
pub record AreDesks {Q S A : Type 0} (is_seat : Q → S → Type 0) (permits : Q → List Permit) (known : S → KnownOf A) (queue : Q) (desks : Desks S) : Type 0 where
  pub senders : All (IsGiver is_seat permits known queue) desks.senders.items
  pub receivers : All (IsTaker is_seat permits known queue) desks.receivers.items
  pub office : IsGiver is_seat permits known queue desks.office
  pub last_sender : IsGiver is_seat permits known queue desks.last_sender
  pub last_receiver : IsGiver is_seat permits known queue desks.last_receiver
