-- What the calls of a seat with its share answer.
use Rattle.std.specs.Prelude.{◌≡◌, ◌⊎◌, ℕ, ◌≤◌, ◌^◌, List}
use Rattle.std.specs.Global.{Vec}
use Rattle.history.specs.declared.operations.Taken.{Taken}
use Rattle.history.specs.Limits.{body_bits}
use Rattle.history.specs.Seats.{Permit, Known, MayPush, MayPop}
use Rattle.history.specs.Answers.{StopsPush, StopsPop, StopsShut, PushRefused, PopRefused}
use Rattle.picked.specs.Picked.{IsPickedSeat, PickedPushRefused, PickedPopRefused, PickedShutRefused}
use Rattle.owned.specs.declared.seats.OwnedSeat.{OwnedSeat}
use Rattle.owned.specs.Owned.{seat_of}
use Rattle.owned.specs.Owned as owned
use Rattle.carriers.specs.declared.queues.Carrier.{Ghosts}
use Rattle.carriers.specs.declared.numbered.Numbers.{Numbers}
use Rattle.carriers.specs.Numbers.{fifo_of}
use Rattle.carriers.specs.DeedsOfNumbers.{known_by_deeds}
use Rattle.ring_queue.specs.Queues.{IsNumberSeat, push_causes, pop_causes, shut_causes}
use Rattle.picked.specs.Either.{IsEitherSeat, EitherCause}
use Rattle.msq_c.specs.declared.seat_blocks.SeatBlock.{SeatBlock}
use Rattle.msq_c.specs.declared.troubles.Trouble.{Trouble}
use Rattle.msq_c.specs.declared.troubles.Trouble.TheVariants.{Refused, BadSize, NoRole}
use Rattle.msq_c.specs.Queues.{Queue, SeatOf, known_of, permits_of}

-- what a queue of any kind names as one of values that are numbers
abbrev pub numbers : Ghosts (Numbers Queue) ℕ SeatOf
numbers = record {
  is_seat = λ q s. IsEitherSeat IsPickedSeat IsNumberSeat (fifo_of q) s;
  permits = λ q. permits_of (fifo_of q);
  known = λ s. known_by_deeds (known_of s);
  push_cause = λ q s t turns refusal. EitherCause PickedPushRefused push_causes (fifo_of q) s t turns refusal;
  pop_cause = λ q s t turns refusal. EitherCause PickedPopRefused pop_causes (fifo_of q) s t turns refusal;
  shut_cause = λ q s t turns refusal. EitherCause PickedShutRefused shut_causes (fifo_of q) s t turns refusal;
}

-- a seat of a queue of any kind, with its share
abbrev pub Owned : Type 0
Owned = OwnedSeat (Numbers Queue) ℕ SeatOf numbers

-- the queue of such a seat
abbrev pub queue_of : Owned → Queue
queue_of s = fifo_of (owned.queue_of s)

-- the seat with its share
abbrev pub owned_in : SeatBlock → Owned
owned_in s = s.owned

-- the queue of a seat, as one of values
abbrev pub numbers_in : SeatBlock → Numbers Queue
numbers_in s = owned.queue_of s.owned

-- the queue of a seat
abbrev pub queue_in : SeatBlock → Queue
queue_in s = queue_of s.owned

-- the seat itself
abbrev pub seat_in : SeatBlock → SeatOf
seat_in s = seat_of s.owned

-- where a seat of a ring keeps what it pops at one step
abbrev pub room_in : SeatBlock → Vec Taken
room_in s = s.room

-- what a seat knows
abbrev pub known_in : SeatBlock → Known
known_in s = known_of (seat_in s)

-- what each seat of its queue may do
abbrev pub permits_in : SeatBlock → List Permit
permits_in s = permits_of (queue_in s)

-- why a push is refused: by the queue, for its cause; or a number is out of its range, or the seat may not push, and nothing
-- changed
abbrev pub RefusesPush : SeatBlock → SeatBlock → (body turns : ℕ) → Trouble → Type 0
RefusesPush s t body turns (Refused refusal) =
    StopsPush refusal × PushRefused (known_in s) refusal (known_in t) × EitherCause PickedPushRefused push_causes (queue_in s) (seat_in s) (seat_in t) turns refusal
RefusesPush s t body turns BadSize = ((turns ≡ 0) ⊎ (2 ^ body_bits ≤ body)) × (t ≡ s)
RefusesPush s t body turns NoRole = (MayPush (permits_in s) (known_in s).number → ⊥) × (t ≡ s)
RefusesPush s t body turns _ = ⊥

-- why a pop is refused: by the queue, for its cause; or the turns are none, or the seat may not pop, and nothing changed
abbrev pub RefusesPop : SeatBlock → SeatBlock → (turns : ℕ) → Trouble → Type 0
RefusesPop s t turns (Refused refusal) =
    StopsPop refusal × PopRefused (known_in s) refusal (known_in t) × EitherCause PickedPopRefused pop_causes (queue_in s) (seat_in s) (seat_in t) turns refusal
RefusesPop s t turns BadSize = (turns ≡ 0) × (t ≡ s)
RefusesPop s t turns NoRole = (MayPop (permits_in s) (known_in s).number → ⊥) × (t ≡ s)
RefusesPop s t turns _ = ⊥

-- why a shut is refused: by the queue, for its cause; or the turns are none, or the seat may not push, and nothing changed
abbrev pub RefusesShut : SeatBlock → SeatBlock → (turns : ℕ) → Trouble → Type 0
RefusesShut s t turns (Refused refusal) =
    StopsShut refusal × PushRefused (known_in s) refusal (known_in t) × EitherCause PickedShutRefused shut_causes (queue_in s) (seat_in s) (seat_in t) turns refusal
RefusesShut s t turns BadSize = (turns ≡ 0) × (t ≡ s)
RefusesShut s t turns NoRole = (MayPush (permits_in s) (known_in s).number → ⊥) × (t ≡ s)
RefusesShut s t turns _ = ⊥
