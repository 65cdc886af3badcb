-- The end of a queue, by handles.
use Rattle.std.specs.Prelude.{◌≡◌, ℕ, ◌+◌, ◌≤◌, List, [], length, map, vec_capacity, true, false}
use Rattle.std.specs.Global.{Vec}
use Rattle.std.specs.List.{All, AllPass}
use Rattle.history.specs.Ends.{Closes}
use Rattle.history.specs.declared.refusals.Refusal.TheVariants.{Memory}
use Rattle.history.specs.declared.rests.Rest.{Rest}
use Rattle.history.specs.declared.operations.Taken.{Taken}
use Rattle.node_arena.specs.declared.seats.Seat.{Seat}
use Rattle.node_arena.specs.Ended.{HasRoomFor}
use Rattle.picked.specs.Picked.{picked_arena_of}
use Rattle.ring_queue.specs.declared.seats.Seat.{Seat as RingSeat}
use Rattle.ring_queue.specs.Ends as ring
use Rattle.picked.specs.declared.either_seats.EitherRoom.{EitherRoom}
use Rattle.picked.specs.EitherEnds.{HasEitherRoom}
use Rattle.msq_c.specs.declared.seat_blocks.EndRoom.{EndRoom}
use Rattle.msq_c.specs.declared.handles.MsqSeat.{MsqSeat}
use Rattle.msq_c.specs.declared.troubles.Trouble.{Trouble}
use Rattle.msq_c.specs.declared.troubles.Trouble.TheVariants.{Refused, BadSize, NoHandle, InUse, Raced}
use Rattle.msq_c.specs.Queues.{Queue, EndOf, permits_of, EndsWith, IsEnough}
use Rattle.msq_c.specs.Blocks.{Owned, owned_in}
use Rattle.msq_c.specs.Seats.{is_full, block_at, known_at, queue_at}

-- each handle is full
abbrev pub AreFull : List MsqSeat → Type 0
AreFull slots = AllPass is_full slots

-- each handle is empty
abbrev pub AreEmpty : List MsqSeat → Type 0
AreEmpty slots = All (λ h. is_full h ≡ false) slots

-- the full ones of these handles are of one queue
pub record AreOfOne (slots : List MsqSeat) : Type 0 where
  pub queue : Queue
  pub one : All (λ h. is_full h ≡ true → queue_at h ≡ queue) slots

-- full handles keep their seats
pub record KeepSeats (slots slots' : List MsqSeat) : Type 0 where
  pub full : AreFull slots'
  pub seats : map block_at slots' ≡ map block_at slots

-- the seat of a handle, with its share
abbrev pub owned_at : MsqSeat → Owned
owned_at h = owned_in (block_at h)

-- the queue of these handles was closed by all of them, with its end
pub record ClosesHandles (slots : List MsqSeat) (rest : Rest) (end : EndOf) : Type 0 where
  pub queue : Queue
  pub one : All (λ h. queue_at h ≡ queue) slots
  pub closes : Closes (permits_of queue) (map known_at slots) rest
  pub ends : EndsWith queue end rest

-- memory was refused
abbrev pub IsMemory : Trouble → Type 0
IsMemory refusal = refusal ≡ Refused Memory

-- room for what is left of a queue as it is ended
abbrev pub RestRoom : Type 0
RestRoom = EitherRoom (Vec Taken) (Seat (Unit {0})) (Vec Taken) (RingSeat (Unit {0}))

-- there is room for what is left at an end of a queue by so many seats, which are enough for it
pub record HasRest (q : Queue) (count : ℕ) (rest : RestRoom) : Type 0 where
  pub enough : IsEnough q count
  pub room : HasEitherRoom (λ p. HasRoomFor (picked_arena_of p)) ring.HasRoomFor q count rest

-- there is room for the end of a queue by so many seats, which are enough for it
pub record HasAnyRoom (q : Queue) (count : ℕ) (room : EndRoom) : Type 0 where
  pub rest : HasRest q count room.rest
  pub none : room.seats.items ≡ []
  pub seats : count ≤ vec_capacity room.seats

-- there is room for the end of the queue of full handles by all of them, whichever it is
abbrev pub HasRoomOf : List MsqSeat → EndRoom → Type 0
HasRoomOf slots room = (q : Queue) (others : ℕ) → length slots ≡ others + 1 → All (λ h. is_full h ≡ true → queue_at h ≡ q) slots → HasAnyRoom q (others + 1) room

-- why there is no such room: others have a share of the queue, or it asks for more seats; or memory was refused
abbrev pub IsRoomless : Trouble → Type 0
IsRoomless InUse = Unit {0}
IsRoomless (Refused refusal) = refusal ≡ Memory
IsRoomless _ = ⊥

-- the same of handles, of which there may be none
abbrev pub RefusesRoom : List MsqSeat → Trouble → Type 0
RefusesRoom slots BadSize = slots ≡ []
RefusesRoom slots refusal = IsRoomless refusal

-- why a queue isn't closed: a handle is empty, and nothing changed; there are no handles; others have a share of it, it
-- is a ring that has further seats, or memory was refused, and then all handles keep their seats; or others got a share meanwhile, and then all are empty
abbrev pub RefusesClose : List MsqSeat → List MsqSeat → Trouble → Type 0
RefusesClose slots slots' NoHandle = (AreFull slots → ⊥) × (slots' ≡ slots)
RefusesClose slots slots' BadSize = slots ≡ []
RefusesClose slots slots' InUse = KeepSeats slots slots'
RefusesClose slots slots' Raced = AreEmpty slots'
RefusesClose slots slots' (Refused refusal) = (refusal ≡ Memory) × KeepSeats slots slots'
RefusesClose slots slots' _ = ⊥
