-- What pushes and pops of many values at one step of a ring answer.
use Rattle.std.specs.Prelude.{◌≡◌, ℕ, zero, suc, ◌≤◌, List, [], length, Result, Ok, Err, vec_capacity}
use Rattle.std.specs.Global.{Vec}
use Rattle.history.specs.declared.operations.Taken.{Taken}
use Rattle.history.specs.declared.refusals.Refusal.{Refusal}
use Rattle.history.specs.Seats.{Known, MayPush, MayPop}
use Rattle.history.specs.Answers.{StopsPush, StopsPop, PushRefused, PopRefused, FoundEmpty}
use Rattle.picked.specs.Picked.{PickedPushRefused, PickedPopRefused}
use Rattle.ring_queue.specs.Queues.{push_causes, pop_causes}
use Rattle.picked.specs.Either.{EitherCause}
use Rattle.msq_c.specs.Queues.{Queue, SeatOf, IsRing, known_of, permits_of}
use Rattle.msq_c.specs.Many.{Makes, PushesFirst, pops}

-- a push of a batch asks for a ring, for a body at least, for turns, and for a seat that may push
pub record AsksPush (bodies : List ℕ) (turns : ℕ) (q : Queue) (s : SeatOf) : Type 0 where
  pub ring : IsRing q
  pub some : 1 ≤ length bodies
  pub tries : 1 ≤ turns
  pub role : MayPush (permits_of q) (known_of s).number

-- what it tells: the first ones were pushed, or the first one is refused, as a push of it is
abbrev pub TellsPush : (bodies : List ℕ) (turns : ℕ) → Queue → SeatOf → Result ℕ Refusal → SeatOf → Type 0
TellsPush bodies turns q s (Ok count) t = PushesFirst (known_of s) bodies (known_of t) count
TellsPush bodies turns q s (Err refusal) t =
    StopsPush refusal × PushRefused (known_of s) refusal (known_of t) × EitherCause PickedPushRefused push_causes q s t turns refusal

-- a pop of a batch asks for a ring, for one value at least, for an empty list with room for them, for turns, and for a seat that
-- may pop
pub record AsksPop (most : ℕ) (into : Vec Taken) (turns : ℕ) (q : Queue) (s : SeatOf) : Type 0 where
  pub ring : IsRing q
  pub some : 1 ≤ most
  pub none : into.items ≡ []
  pub room : most ≤ vec_capacity into
  pub tries : 1 ≤ turns
  pub role : MayPop (permits_of q) (known_of s).number

-- these values were popped, so many, and no more than a number
pub record PopsFirst (k : Known) (most : ℕ) (values : List Taken) (k' : Known) (count : ℕ) : Type 0 where
  pub long : length values ≡ count
  pub few : count ≤ most
  pub makes : Makes k (pops k.number values) k'

-- what a pop of a batch that counts so many did: the queue was found empty, or they were popped
abbrev pub PopsSome : (k : Known) (most : ℕ) (values : List Taken) (k' : Known) (count : ℕ) → Type 0
PopsSome k most values k' zero = (values ≡ []) × FoundEmpty k k'
PopsSome k most values k' (suc n) = PopsFirst k most values k' (suc n)

-- what it answers with its list: so many were popped, or it is refused, as a pop is
abbrev pub AnswersPop : (most turns : ℕ) → Queue → SeatOf → List Taken → Result ℕ Refusal → SeatOf → Type 0
AnswersPop most turns q s values (Ok count) t = PopsSome (known_of s) most values (known_of t) count
AnswersPop most turns q s values (Err refusal) t =
    StopsPop refusal × PopRefused (known_of s) refusal (known_of t) × EitherCause PickedPopRefused pop_causes q s t turns refusal

-- what it tells
abbrev pub TellsPop : (most turns : ℕ) → Queue → SeatOf → Vec Taken × Result ℕ Refusal → SeatOf → Type 0
TellsPop most turns q s told t = AnswersPop most turns q s told.0.items told.1 t
