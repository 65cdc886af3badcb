-- What calls that sleep answer.
use Rattle.std.specs.Prelude.{◌≡◌, ℕ}
use Rattle.history.specs.declared.refusals.Refusal.{Refusal}
use Rattle.history.specs.declared.refusals.Refusal.TheVariants.{NoNode, WornOut, Closed}
use Rattle.carriers.specs.declared.items.ItemOf.{ItemOf}
use Rattle.carriers.specs.Knowledge.{KnownOf}
use Rattle.carriers.specs.Answers.{PushedOf, PoppedOf, PopRefusedOf, SeesMoreOf, EndsByTryOf}
use Rattle.shared_queue.specs.declared.deadlines.InTime.{InTime}
use Rattle.shared_queue.specs.declared.deadlines.InTime.TheVariants.{Done, Late}
use Rattle.shared_queue.specs.declared.deadlines.Late as lates
use Rattle.shared_queue.specs.declared.deadlines.Unsent.{Unsent}
use Rattle.shared_queue.specs.Lates.{seat_then}
use Rattle.shared_queue.specs.Waits.{WaitedOf, EmptySinceOf}

-- a seat waited, and then popped this value
pub record ReceivedOf {A : Type 0} (k : KnownOf A) (front : ItemOf A) (k' : KnownOf A) : Type 0 where
  pub last : KnownOf A
  pub waited : WaitedOf k last
  pub popped : PoppedOf last front k'

-- a seat waited, and was then refused as a pop is
pub record RecvRefusedOf {A : Type 0} (k : KnownOf A) (refusal : Refusal) (k' : KnownOf A) : Type 0 where
  pub last : KnownOf A
  pub waited : WaitedOf k last
  pub refused : PopRefusedOf last refusal k'

-- a seat waited, and a pop of it, of so many turns, then had this cause to be refused
pub record EndsAfterWaitOf {Q S A : Type 0} (is_seat : Q → S → Type 0) (known : S → KnownOf A) (cause : Q → S → S → ℕ → Refusal → Type 0)
    (queue : Q) (before after : S) (turns : ℕ) (refusal : Refusal) : Type 0 where
  pub last : S
  pub seat : is_seat queue last
  pub waited : WaitedOf (known before) (known last)
  pub caused : cause queue last after turns refusal

-- what a call that waits for a value up to some time answers: the value; or that its time was over, and that the seat then
-- found the queue empty
abbrev pub RecvAnswersOf : {S A : Type 0} (known : S → KnownOf A) → S → InTime (ItemOf A) (lates.Late S) → S → Type 0
RecvAnswersOf known before (Done front) after = ReceivedOf (known before) front (known after)
RecvAnswersOf known before (Late late) after =
    WaitedOf (known before) (known (seat_then late)) × EmptySinceOf (known (seat_then late)) (known after)

-- where a call's time was over, it has one
abbrev pub Ends : {T L : Type 0} (comes : Type 0) → InTime T L → Type 0
Ends comes (Done value) = Unit {0}
Ends comes (Late late) = comes

-- what a call that waits for a node up to some time answers: the value was pushed; or its time was over, a push of the seat was
-- then refused for want of a node, and the very value comes back
abbrev pub SendAnswersOf : {Q S A : Type 0} (is_seat : Q → S → Type 0) (known : S → KnownOf A) (cause : Q → S → S → ℕ → Refusal → Type 0)
    → Q → (value : A) → S → InTime (Unit {0}) (Unsent A S) → S → Type 0
SendAnswersOf is_seat known cause queue value before (Done done) after = PushedOf (known before) value (known after)
SendAnswersOf is_seat known cause queue value before (Late unsent) after =
    (unsent.value ≡ value) × SeesMoreOf (known before) (known (seat_then unsent.late))
    × SeesMoreOf (known (seat_then unsent.late)) (known after)
    × EndsByTryOf is_seat known cause queue (seat_then unsent.late) after 8 NoNode

-- a push that sleeps may be refused so: a word was worn out, or the queue was shut
abbrev pub EndsSend : Refusal → Type 0
EndsSend (WornOut word) = Unit {0}
EndsSend Closed = Unit {0}
EndsSend _ = ⊥
