-- The queues of the library, of each kind, and their seats.
use Rattle.std.specs.Prelude.{◌≡◌, ℕ, List, length}
use Rattle.history.specs.Seats.{Permit, Known}
use Rattle.history.specs.declared.rests.Rest.{Rest}
use Rattle.node_arena.specs.declared.ended.Ended.{Ended}
use Rattle.node_arena.specs.declared.seats.Seat.{Seat}
use Rattle.node_arena.specs.Ended.{Leaves}
use Rattle.node_arena.specs.Seats as arena
use Rattle.picked.specs.declared.picked.PickedQueue.{PickedQueue}
use Rattle.picked.specs.Picked.{picked_arena_of, picked_permits_of}
use Rattle.ring_queue.specs.declared.queue.RingQueue.{RingQueue}
use Rattle.ring_queue.specs.declared.seats.Seat.{Seat as RingSeat}
use Rattle.ring_queue.specs.Queues.{permits_in}
use Rattle.ring_queue.specs.Seats as ring
use Rattle.picked.specs.declared.either.EitherQueue.{EitherQueue}
use Rattle.picked.specs.declared.either.EitherQueue.TheVariants.{First, Second}
use Rattle.picked.specs.declared.either.EitherSeat.{EitherSeat}
use Rattle.picked.specs.declared.either_seats.EitherEnd.{EitherEnd}
use Rattle.picked.specs.Either.{either_permits, either_known}
use Rattle.picked.specs.EitherEnds.{EitherEnds}

-- a queue of any kind: of nodes, or a ring
abbrev pub Queue : Type 0
Queue = EitherQueue PickedQueue (RingQueue (Unit {0}))

-- a seat of one
abbrev pub SeatOf : Type 0
SeatOf = EitherSeat (Seat (Unit {0})) (RingSeat (Unit {0}))

-- what an end of one gives beside the rest
abbrev pub EndOf : Type 0
EndOf = EitherEnd (Ended (Unit {0})) (Unit {0})

-- what a seat knows
abbrev pub known_of : SeatOf → Known
known_of s = either_known arena.known_of ring.known_of s

-- what each seat of a queue may do
abbrev pub permits_of : Queue → List Permit
permits_of q = either_permits picked_permits_of permits_in q

-- this is the end of a queue, and it leaves this rest
abbrev pub EndsWith : Queue → EndOf → Rest → Type 0
EndsWith q end rest = EitherEnds (λ p. Leaves (picked_arena_of p)) (λ r e x. Unit {0}) q end rest

-- so many seats are enough for an end of a queue: any of one of nodes, and all of a ring
abbrev pub IsEnough : Queue → (count : ℕ) → Type 0
IsEnough (First q) count = Unit {0}
IsEnough (Second q) count = count ≡ length (permits_in q)

-- a queue is a ring
abbrev pub IsRing : Queue → Type 0
IsRing (First q) = ⊥
IsRing (Second q) = Unit {0}
