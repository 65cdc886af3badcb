-- What C holds of a seat, and what the exports answer.
use Rattle.std.specs.Prelude.{◌≡◌, ◌↔◌, ◌⊎◌, ℕ, Bool, true, false, Option, Result, Err, OnOk, IfOk, IfErr}
use Rattle.history.specs.Seats.{Known}
use Rattle.history.specs.Answers.{Pushed, PopAnswers, DidShut, Meets}
use Rattle.history.specs.declared.operations.Taken.{Taken}
use Rattle.msq_c.specs.declared.seat_blocks.SeatBlock.{SeatBlock}
use Rattle.msq_c.specs.declared.handles.MsqSeat.{MsqSeat}
use Rattle.msq_c.specs.declared.troubles.Trouble.{Trouble}
use Rattle.msq_c.specs.declared.troubles.Trouble.TheVariants.{NoHandle}
use Rattle.msq_c.specs.Queues.{Queue}
use Rattle.msq_c.specs.Blocks.{queue_in, known_in, RefusesPush, RefusesPop, RefusesShut}

-- whether there is a seat
abbrev pub is_full : MsqSeat → Bool
is_full h = h.full

-- the seat, where there is one
abbrev pub block_at : MsqSeat → SeatBlock
block_at h = h.handle.value

-- what the seat knows, where there is one
abbrev pub known_at : MsqSeat → Known
known_at h = known_in (block_at h)

-- the queue of the seat, where there is one
abbrev pub queue_at : MsqSeat → Queue
queue_at h = queue_in (block_at h)

-- a call by a handle keeps whether it is full, and its queue
pub record KeepsHandle (h h' : MsqSeat) : Type 0 where
  pub full : is_full h' ≡ is_full h
  pub queue : queue_at h' ≡ queue_at h

-- a call by a handle is refused so exactly where the handle is empty
abbrev pub NeedsHandle : {A : Type 0} → MsqSeat → Result A Trouble → Type 0
NeedsHandle h out = (out ≡ Err NoHandle) ↔ (is_full h ≡ false)

-- what a push by a handle answers
pub record AnswersPush (h h' : MsqSeat) (body turns : ℕ) (out : Result (Unit {0}) Trouble) : Type 0 where
  pub keeps : KeepsHandle h h'
  pub empty : NeedsHandle h out
  pub pushed : OnOk out (Pushed (known_at h) body (known_at h'))
  pub refused : is_full h ≡ true → IfErr out (RefusesPush (block_at h) (block_at h') body turns)

-- what a pop by a handle answers
pub record AnswersPop (h h' : MsqSeat) (turns : ℕ) (out : Result (Option Taken) Trouble) : Type 0 where
  pub keeps : KeepsHandle h h'
  pub empty : NeedsHandle h out
  pub answer : IfOk out (λ taken. PopAnswers (known_at h) taken (known_at h'))
  pub refused : is_full h ≡ true → IfErr out (RefusesPop (block_at h) (block_at h') turns)

-- what a shut by a handle answers
pub record AnswersShut (h h' : MsqSeat) (turns : ℕ) (out : Result (Unit {0}) Trouble) : Type 0 where
  pub keeps : KeepsHandle h h'
  pub empty : NeedsHandle h out
  pub shut : OnOk out (DidShut (known_at h) (known_at h'))
  pub refused : is_full h ≡ true → IfErr out (RefusesShut (block_at h) (block_at h') turns)

-- two handles may meet: where both are full, they are of one queue
abbrev pub MayMeet : MsqSeat → MsqSeat → Type 0
MayMeet h i = is_full h ≡ true → is_full i ≡ true → queue_at i ≡ queue_at h

-- what two handles answer that meet: refused where one of them is empty, and then nothing changed
pub record AnswersMeet (h i h' i' : MsqSeat) (out : Result (Unit {0}) Trouble) : Type 0 where
  pub one : KeepsHandle h h'
  pub other : KeepsHandle i i'
  pub meets : OnOk out (Meets (known_at h) (known_at i) (known_at h') (known_at i'))
  pub refused : IfErr out (λ refusal. (refusal ≡ NoHandle) × ((is_full h ≡ false) ⊎ (is_full i ≡ false)) × (h' ≡ h) × (i' ≡ i))
