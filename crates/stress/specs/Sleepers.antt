-- Seats of who sends, and of who sleeps.
use Rattle.std.specs.Prelude.{List}
use Rattle.history.specs.Seats.{Permit, Known, MayPush, MayPop}

-- a seat is the queue's, in no call, and may push
abbrev pub CanSend : {Q S : Type 0} → (Q → S → Type 0) → (Q → List Permit) → (S → Known) → Q → S → Type 0
CanSend is_seat permits known queue seat = is_seat queue seat × MayPush (permits queue) (known seat).number

-- a seat is the queue's, in no call, and may pop
abbrev pub CanReceive : {Q S : Type 0} → (Q → S → Type 0) → (Q → List Permit) → (S → Known) → Q → S → Type 0
CanReceive is_seat permits known queue seat = is_seat queue seat × MayPop (permits queue) (known seat).number
