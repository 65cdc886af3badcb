-- What looks by a handle answer.
use Rattle.std.specs.Prelude.{◌≡◌, ◌↔◌, ◌-◌, ◌^◌, ℕ, Option, Some, None, IsNone, IfSome, IsSomeAnd, Result, Ok, Err, IfOk, IfErr}
use Rattle.line_table.specs.declared.lines.Kind.TheVariants.{TwoLock}
use Rattle.history.specs.Seats.{Known}
use Rattle.carriers.specs.declared.numbered.Numbers.{Numbers}
use Rattle.carriers.specs.Numbers.{fifo_of}
use Rattle.node_arena.specs.declared.emptiness.Emptiness.{Emptiness}
use Rattle.node_arena.specs.declared.emptiness.Emptiness.TheVariants.{Empty, ShutEmpty, Holds, Moved}
use Rattle.node_arena.specs.Seats.{plan_of, setup_of}
use Rattle.node_arena.specs.Looks.{FoundSo, WasSoLong}
use Rattle.arena_queue.specs.declared.left.Left.{Left}
use Rattle.arena_queue.specs.Lefts.{HasLeft}
use Rattle.picked.specs.declared.picked.PickedQueue.{PickedQueue}
use Rattle.picked.specs.Picked.{picked_arena_of}
use Rattle.ring_queue.specs.Lengths as ring
use Rattle.picked.specs.declared.either.EitherQueue.TheVariants.{First, Second}
use Rattle.msq_c.specs.declared.bounds.MsqLen.{MsqLen}
use Rattle.msq_c.specs.declared.bounds.MsqLeft.{MsqLeft}
use Rattle.msq_c.specs.declared.handles.MsqSeat.{MsqSeat}
use Rattle.msq_c.specs.declared.troubles.Trouble.{Trouble}
use Rattle.msq_c.specs.declared.troubles.Trouble.TheVariants.{NoHandle}
use Rattle.msq_c.specs.Codes.{code_of}
use Rattle.msq_c.specs.Queues.{Queue, SeatOf, known_of}
use Rattle.msq_c.specs.Blocks.{numbers_in, seat_in}
use Rattle.msq_c.specs.Seats.{block_at, KeepsHandle, NeedsHandle}

-- the code of whether a queue is empty: 0 where it holds a value, 32 where it is empty, 16 where it is shut too, 3 where others
-- were popping
abbrev pub emptiness_code : Result Emptiness Trouble → ℕ
emptiness_code (Ok Holds) = 0
emptiness_code (Ok Empty) = 32
emptiness_code (Ok ShutEmpty) = 16
emptiness_code (Ok Moved) = 3
emptiness_code (Err refusal) = code_of refusal

-- the code of how long a queue is: 42 where that can't be told
abbrev pub len_code : Result (Option MsqLen) Trouble → ℕ
len_code (Ok (Some len)) = 0
len_code (Ok None) = 42
len_code (Err refusal) = code_of refusal

-- a queue tells whether it is empty
abbrev pub TellsEmptiness : Numbers Queue → SeatOf → Emptiness → SeatOf → Type 0
TellsEmptiness q s told t = FoundSo (known_of s) told (known_of t)

-- a queue of nodes tells its length between two bounds, and none exactly where it is a two-lock one
pub record TellsNodes (q : PickedQueue) (k : Known) (told : Option MsqLen) (k' : Known) : Type 0 where
  pub none : IsNone told ↔ ((setup_of (picked_arena_of q)).kind ≡ TwoLock)
  pub long : IfSome told (λ len. WasSoLong k (record { least = len.least; most = len.most }) k')

-- a queue is so long: one of nodes tells it so, and a ring always
abbrev pub IsSoLong : Queue → Known → Option MsqLen → Known → Type 0
IsSoLong (First q) k told k' = TellsNodes q k told k'
IsSoLong (Second q) k told k' = IsSomeAnd told (λ len. ring.WasSoLong k (record { least = len.least; most = len.most }) k')

-- a queue tells its length
abbrev pub TellsLen : Numbers Queue → SeatOf → Option MsqLen → SeatOf → Type 0
TellsLen q s told t = IsSoLong (fifo_of q) (known_of s) told (known_of t)

-- what C gets of what is left of a queue of nodes
abbrev pub left_of : Left → MsqLeft
left_of left = record { pushes = left.pushes; free = left.free; tail = left.tail; head = left.head }

-- what C gets of how many pushes a ring has left: so often Tail can still be raised, and its other words don't wear
abbrev pub left_in : (pushes : ℕ) → MsqLeft
left_in pushes = record { pushes = pushes; free = 2 ^ 64 - 1; tail = pushes; head = 2 ^ 64 - 1 }

-- a queue has so many pushes left, as its kind tells it
abbrev pub HasSoMany : Queue → Known → MsqLeft → Known → Type 0
HasSoMany (First q) k told k' = (left : Left) × (told ≡ left_of left) × HasLeft (plan_of (picked_arena_of q)) k left k'
HasSoMany (Second q) k told k' = (pushes : ℕ) × (told ≡ left_in pushes) × ring.LeavesPushes q.plan k pushes k'

-- a queue tells how many pushes it has left
abbrev pub TellsLeft : Numbers Queue → SeatOf → MsqLeft → SeatOf → Type 0
TellsLeft q s told t = HasSoMany (fifo_of q) (known_of s) told (known_of t)

-- what a look by a handle answers: what the queue tells; it is refused exactly where the handle is empty, with no change
pub record AnswersLook {A : Type 0} (Told : Numbers Queue → SeatOf → A → SeatOf → Type 0) (h h' : MsqSeat) (out : Result A Trouble) : Type 0 where
  pub keeps : KeepsHandle h h'
  pub empty : NeedsHandle h out
  pub told : IfOk out (λ a. Told (numbers_in (block_at h)) (seat_in (block_at h)) a (seat_in (block_at h')))
  pub refused : IfErr out (λ refusal. (refusal ≡ NoHandle) × (h' ≡ h))

-- the bounds told were written, and else nothing
abbrev pub IsLenWritten : Result (Option MsqLen) Trouble → MsqLen → MsqLen → Type 0
IsLenWritten (Ok (Some len)) m m' = m' ≡ len
IsLenWritten out m m' = m' ≡ m

-- what is left was written, and else nothing
abbrev pub IsLeftWritten : Result MsqLeft Trouble → MsqLeft → MsqLeft → Type 0
IsLeftWritten (Ok left) m m' = m' ≡ left
IsLeftWritten out m m' = m' ≡ m
