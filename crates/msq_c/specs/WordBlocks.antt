-- What the calls of a seat of a queue of words, with its share, answer.
use Rattle.std.specs.Prelude.{◌≡◌, ℕ, List}
use Rattle.history.specs.Seats.{Permit, MayPush, MayPop}
use Rattle.history.specs.Answers.{StopsPush, StopsPop, StopsShut}
use Rattle.carriers.specs.declared.queues.Carrier.{Ghosts}
use Rattle.carriers.specs.Knowledge.{KnownOf}
use Rattle.carriers.specs.Answers.{PushRefusedOf, PopRefusedOf}
use Rattle.node_arena.specs.declared.seats.Seat.{Seat}
use Rattle.value_queue.specs.ValuesSeen.{known_by}
use Rattle.picked.specs.declared.kind_values.AnyValues.{AnyValues}
use Rattle.picked.specs.AnyValues.{permits_of, PushCause, PopCause, ShutCause}
use Rattle.owned.specs.declared.seats.OwnedSeat.{OwnedSeat}
use Rattle.owned.specs.Owned.{queue_of, seat_of}
use Rattle.msq_c.specs.declared.word_blocks.WordsBlock.{WordsBlock}
use Rattle.msq_c.specs.declared.troubles.Trouble.{Trouble}
use Rattle.msq_c.specs.declared.troubles.Trouble.TheVariants.{Refused, BadSize, NoRole}

-- a seat of a queue of such values, with its share
abbrev pub Owned : (T : Type 0) → Ghosts (AnyValues T) T (Seat T) → Type 0
Owned T g = OwnedSeat (AnyValues T) T (Seat T) g

-- the same, as a handle owns it
abbrev pub Own : (T : Type 0) → Ghosts (AnyValues T) T (Seat T) → Type 0
Own T g = WordsBlock (AnyValues T) T (Seat T) g

module _ {T : Type 0} {g : Ghosts (AnyValues T) T (Seat T)} where
  -- the seat with its share
  abbrev pub owned_in : Own T g → Owned T g
  owned_in s = s.owned

  -- the queue of a seat
  abbrev pub queue_in : Own T g → AnyValues T
  queue_in s = queue_of s.owned

  -- the seat itself
  abbrev pub seat_in : Own T g → Seat T
  seat_in s = seat_of s.owned

  -- what a seat knows
  abbrev pub known_in : Own T g → KnownOf T
  known_in s = known_by (seat_in s)

  -- what each seat of its queue may do
  abbrev pub permits_in : Own T g → List Permit
  permits_in s = permits_of (queue_in s)

  -- why a push is refused: by the queue, for its cause; or the turns are none, or the seat may not push, and nothing changed
  abbrev pub RefusesPush : Own T g → Own T g → (turns : ℕ) → Trouble → Type 0
  RefusesPush s t turns (Refused refusal) =
      StopsPush refusal × PushRefusedOf (known_in s) refusal (known_in t) × PushCause (queue_in s) (seat_in s) (seat_in t) turns refusal
  RefusesPush s t turns BadSize = (turns ≡ 0) × (t ≡ s)
  RefusesPush s t turns NoRole = (MayPush (permits_in s) (known_in s).number → ⊥) × (t ≡ s)
  RefusesPush s t turns _ = ⊥

  -- why a pop is refused: by the queue, for its cause; or the turns are none, or the seat may not pop, and nothing changed
  abbrev pub RefusesPop : Own T g → Own T g → (turns : ℕ) → Trouble → Type 0
  RefusesPop s t turns (Refused refusal) =
      StopsPop refusal × PopRefusedOf (known_in s) refusal (known_in t) × PopCause (queue_in s) (seat_in s) (seat_in t) turns refusal
  RefusesPop s t turns BadSize = (turns ≡ 0) × (t ≡ s)
  RefusesPop s t turns NoRole = (MayPop (permits_in s) (known_in s).number → ⊥) × (t ≡ s)
  RefusesPop s t turns _ = ⊥

  -- why a shut is refused: by the queue, for its cause; or the turns are none, or the seat may not push, and nothing changed
  abbrev pub RefusesShut : Own T g → Own T g → (turns : ℕ) → Trouble → Type 0
  RefusesShut s t turns (Refused refusal) =
      StopsShut refusal × PushRefusedOf (known_in s) refusal (known_in t) × ShutCause (queue_in s) (seat_in s) (seat_in t) turns refusal
  RefusesShut s t turns BadSize = (turns ≡ 0) × (t ≡ s)
  RefusesShut s t turns NoRole = (MayPush (permits_in s) (known_in s).number → ⊥) × (t ≡ s)
  RefusesShut s t turns _ = ⊥
