-- The handles of a new queue.
use Rattle.std.specs.Prelude.{◌≡◌, ℕ, ◌+◌, ◌*◌, ◌<◌, ◌≤◌, ◌^◌, ◌⊎◌, ◌≢◌, ◌-◌, min, List, map, length, Result, OnOk, OnErr, IfErr}
use Rattle.std.specs.List.{All}
use Rattle.line_table.specs.declared.lines.Kind.{Kind}
use Rattle.line_table.specs.declared.lines.Kind.TheVariants.{NonBlocking, TwoLock}
use Rattle.history.specs.declared.refusals.Refusal.TheVariants.{Memory}
use Rattle.history.specs.Openings.{AreNew}
use Rattle.history.specs.Limits.{actor_bits}
use Rattle.counted_ref.specs.Ref.{reserved_node}
use Rattle.node_arena.specs.declared.seats.Seat.{Seat}
use Rattle.node_arena.specs.declared.roles.Role.{Role}
use Rattle.node_arena.specs.declared.roles.Role.TheVariants.{Giver, Taker, Both}
use Rattle.node_arena.specs.Plans.{Layout}
use Rattle.node_arena.specs.NewArenas.{IsMade}
use Rattle.picked.specs.Splits.{bits_for, greatest_count, limited_plan}
use Rattle.picked.specs.declared.picked.PickedQueue.{PickedQueue}
use Rattle.picked.specs.Picked.{picked_arena_of}
use Rattle.owned.specs.Owned.{seat_of}
use Rattle.ring_queue.specs.declared.queue.RingQueue.{RingQueue}
use Rattle.ring_queue.specs.declared.roles.Role.{Role as RingRole}
use Rattle.ring_queue.specs.declared.roles.Role.TheVariants as ring_role
use Rattle.ring_queue.specs.declared.seats.Seat.{Seat as RingSeat}
use Rattle.ring_queue.specs.NewRings as ring
use Rattle.picked.specs.declared.either.EitherQueue.TheVariants.{First, Second}
use Rattle.picked.specs.Either.{as_first, as_second}
use Rattle.msq_c.specs.declared.handles.MsqSeat.{MsqSeat}
use Rattle.msq_c.specs.declared.troubles.Trouble.{Trouble}
use Rattle.msq_c.specs.declared.troubles.Trouble.TheVariants.{Refused, BadSize, InUse}
use Rattle.msq_c.specs.Queues.{Queue, SeatOf, known_of, permits_of}
use Rattle.msq_c.specs.Blocks.{Owned, queue_of, seat_in}
use Rattle.msq_c.specs.Ends.{AreFull, AreEmpty}
use Rattle.msq_c.specs.Seats.{block_at, known_at, queue_at}

-- the number of a kind
abbrev pub kind_number : Kind → ℕ
kind_number NonBlocking = 0
kind_number TwoLock = 1

-- the number of a role
abbrev pub role_number : Role → ℕ
role_number Giver = 1
role_number Taker = 2
role_number Both = 3

-- the number of a role in a ring
abbrev pub ring_role_number : RingRole → ℕ
ring_role_number ring_role.Giver = 1
ring_role_number ring_role.Taker = 2
ring_role_number ring_role.Both = 3

-- a number is that of a role
abbrev pub IsRole : ℕ → Type 0
IsRole n = (1 ≤ n) × (n ≤ 3)

-- the greatest count of a queue of so many nodes, with this limit: the limit, or the greatest count of its split, where that is
-- less
abbrev pub count_for : (nodes limit : ℕ) → ℕ
count_for nodes limit = min limit (greatest_count (bits_for nodes))

-- the plan of a queue of so many nodes, of the split for these, with this limit
abbrev pub plan_for : Kind → (nodes limit : ℕ) → List Role → Layout
plan_for kind nodes limit roles = limited_plan kind nodes (count_for nodes limit) roles

-- the last place of a ring with room for so many values, with this limit: so many pushes are left at first, and more, as its slots are
-- fewer than twice its values; or the greatest place there is
abbrev pub places_for : (values limit : ℕ) → ℕ
places_for values limit = min (limit + 2 * values) (2 ^ 62 - 1)

-- a queue has such sizes
pub record AreSizes (nodes limit seats : ℕ) : Type 0 where
  pub some_nodes : 2 ≤ nodes
  pub numbered : nodes < reserved_node 32
  pub counts : 1 ≤ limit
  pub counted : limit < 2 ^ 62
  pub some_seats : 1 ≤ seats
  pub few_seats : seats < 2 ^ actor_bits

-- no queue has such sizes: one of them is out of its range
abbrev pub AreNoSizes : (nodes limit seats : ℕ) → Type 0
AreNoSizes nodes limit seats =
    ((nodes < 2) ⊎ (reserved_node 32 ≤ nodes)) ⊎ ((limit < 1) ⊎ (2 ^ 62 ≤ limit)) ⊎ ((seats < 1) ⊎ (2 ^ actor_bits ≤ seats))

-- these numbers ask for a queue: they are of a kind and of roles, its sizes are in their ranges, and a ring has so few seats
pub record Asks (kind nodes limit : ℕ) (roles : List ℕ) : Type 0 where
  pub of_kind : kind ≤ 2
  pub of_roles : All IsRole roles
  pub sizes : AreSizes nodes limit (length roles)
  pub few_of_ring : kind ≡ 2 → length roles < 2 ^ 15

-- one of these numbers is out of its range: that of the kind, that of a role, a size, or how many seats a ring has
abbrev pub IsOutOfRange : (kind nodes limit : ℕ) (roles : List ℕ) → Type 0
IsOutOfRange kind nodes limit roles =
    (2 < kind) ⊎ (All IsRole roles → ⊥) ⊎ AreNoSizes nodes limit (length roles) ⊎ ((kind ≡ 2) × (2 ^ 15 ≤ length roles))

-- a queue may be made: its numbers are in their ranges, and there is an empty handle for each role
pub record MayMake (kind nodes limit : ℕ) (roles : List ℕ) (slots : List MsqSeat) : Type 0 where
  pub empty : AreEmpty slots
  pub count : length roles ≡ length slots
  pub asks : Asks kind nodes limit roles

-- a new queue of nodes, and its seats: of the kind and of the roles with these numbers, and of these sizes
pub record IsNewLinked (kind nodes limit : ℕ) (roles : List ℕ) (q : PickedQueue) (seats : List SeatOf) : Type 0 where
  pub layout : Layout
  pub of_kind : kind_number layout.setup.kind ≡ kind
  pub of_roles : map role_number layout.roles ≡ roles
  pub planned : layout ≡ plan_for layout.setup.kind nodes limit layout.roles
  pub within : List (Seat (Unit {0}))
  pub those : seats ≡ map as_first within
  pub made : IsMade layout (picked_arena_of q) within

-- a new ring, and its seats: of the roles with these numbers, and of these sizes
pub record IsNewRing (values limit : ℕ) (numbers : List ℕ) (q : RingQueue (Unit {0})) (seats : List SeatOf) : Type 0 where
  pub roles : List RingRole
  pub of_roles : map ring_role_number roles ≡ numbers
  pub within : List (RingSeat (Unit {0}))
  pub those : seats ≡ map as_second within
  pub made : ring.IsMade values (places_for values limit) roles q within

-- a new queue of the kind with this number, and its seats
abbrev pub IsNew : (kind nodes limit : ℕ) (roles : List ℕ) → Queue → List SeatOf → Type 0
IsNew kind nodes limit roles (First q) seats = IsNewLinked kind nodes limit roles q seats
IsNew kind nodes limit roles (Second q) seats = (kind ≡ 2) × IsNewRing nodes limit roles q seats

-- these are the seats of one new queue, as these numbers ask for it, each with a share
pub record AreUnused (kind nodes limit : ℕ) (roles : List ℕ) (owned : List Owned) : Type 0 where
  pub queue : Queue
  pub made : IsNew kind nodes limit roles queue (map seat_of owned)
  pub one : All (λ s. queue_of s ≡ queue) owned
  pub unused : AreNew (permits_of queue) (map (λ s. known_of (seat_of s)) owned)

-- the seat itself of a handle, where there is one
abbrev pub seat_at : MsqSeat → SeatOf
seat_at h = seat_in (block_at h)

-- these handles have all the seats of one new queue, in their order: of the kind and of the roles with these numbers, and of these
-- sizes
pub record AreAsked (kind nodes limit : ℕ) (roles : List ℕ) (slots : List MsqSeat) : Type 0 where
  pub queue : Queue
  pub made : IsNew kind nodes limit roles queue (map seat_at slots)
  pub full : AreFull slots
  pub one : All (λ h. queue_at h ≡ queue) slots
  pub unused : AreNew (permits_of queue) (map known_at slots)

-- why no queue is made: a handle is full; else a number is out of its range, or there are fewer handles than roles, or more;
-- else memory was refused
abbrev pub RefusesCreate : (kind nodes limit : ℕ) (roles : List ℕ) → List MsqSeat → Trouble → Type 0
RefusesCreate kind nodes limit roles slots InUse = AreEmpty slots → ⊥
RefusesCreate kind nodes limit roles slots BadSize = AreEmpty slots × ((length roles ≢ length slots) ⊎ IsOutOfRange kind nodes limit roles)
RefusesCreate kind nodes limit roles slots (Refused refusal) = MayMake kind nodes limit roles slots × (refusal ≡ Memory)
RefusesCreate kind nodes limit roles slots _ = ⊥

-- what the making of a queue answers: the handles are its seats; refused, they are as they were
pub record AnswersCreate (kind nodes limit : ℕ) (roles : List ℕ) (slots slots' : List MsqSeat) (out : Result (Unit {0}) Trouble) : Type 0 where
  pub made : OnOk out (AreAsked kind nodes limit roles slots')
  pub might : OnOk out (MayMake kind nodes limit roles slots)
  pub same : OnErr out (slots' ≡ slots)
  pub refused : IfErr out (RefusesCreate kind nodes limit roles slots)
