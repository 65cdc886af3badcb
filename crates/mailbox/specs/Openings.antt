-- What a new office is.
use Rattle.std.specs.Prelude.{◌≡◌, List, map, false}
use Rattle.history.specs.Seats.{Permit, Known, MayPush, MayPop}
use Rattle.history.specs.Values.{OnlyPops}
use Rattle.mailbox.specs.declared.office.Office.{Office}
use Rattle.mailbox.specs.declared.sender.Sender.{Sender}
use Rattle.mailbox.specs.declared.receiver.Receiver.{Receiver}
use Rattle.mailbox.specs.Offices.{queue_in, has_lost}

-- a seat of the queue, in no call, that may push
pub record CanSend {Q S : Type 0} (is_seat : Q → S → Type 0) (permits : Q → List Permit) (known : S → Known) (q : Q) (s : S) : Type 0 where
  pub seat : is_seat q s
  pub role : MayPush (permits q) (known s).number

-- a seat of the queue, in no call, that alone may pop
pub record CanReceive {Q S : Type 0} (is_seat : Q → S → Type 0) (permits : Q → List Permit) (known : S → Known) (q : Q) (s : S) : Type 0 where
  pub seat : is_seat q s
  pub role : MayPop (permits q) (known s).number
  pub only : OnlyPops (permits q) (known s).number

-- the office has the queue, the senders have these seats, in order, and the receiver has its seat; it has lost no letter
pub record Opens {Q S : Type 0} (queue : Q) (seats : List S) (seat : S) (o : Office Q S) (ss : List (Sender Q S)) (r : Receiver Q S) : Type 0 where
  pub queue_is : queue_in o ≡ queue
  pub senders : map (λ s. s.seat) ss ≡ seats
  pub receiver : r.seat ≡ seat
  pub kept : has_lost r ≡ false
