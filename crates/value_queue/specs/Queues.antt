-- A queue of values on an arena, as a queue with seats.
use Rattle.std.specs.Prelude.{◌≡◌, ℕ, ◌+◌, List, [], length, Some, slice_get}
use Rattle.line_table.specs.declared.lines.Kind.{Kind}
use Rattle.history.specs.Seats.{Permit}
use Rattle.carriers.specs.Knowledge.{KnownOf}
use Rattle.node_arena.specs.declared.roles.Role.{Role}
use Rattle.node_arena.specs.Arenas.{Arena}
use Rattle.node_arena.specs.declared.seats.Seat.{Seat}
use Rattle.node_arena.specs.Seats as seats
use Rattle.node_arena.specs.Seats.{IsReady, HasNoSlot}
use Rattle.node_arena.specs.NewArenas.{value_plan, IsMade}
use Rattle.arena_queue.specs.declared.algorithms.Algorithm.{Ghosts}
use Rattle.value_queue.specs.declared.queue.QueueOf.{QueueOf}

module _ {T A : Type 0} {bits : ℕ} {g : Ghosts A bits} where
  -- the arena of a queue
  abbrev pub arena_of : QueueOf T A bits g → Arena
  arena_of q = q.arena

  -- what each seat of a queue may do
  abbrev pub permits_of : QueueOf T A bits g → List Permit
  permits_of q = seats.permits_of (arena_of q)

  -- a seat of a queue, in no call, with no slot
  abbrev pub IsQueueSeat : QueueOf T A bits g → Seat T → Type 0
  IsQueueSeat q s = IsReady (arena_of q) s × HasNoSlot s

  -- a new queue of a kind, of so many nodes and this greatest count, with a new seat for each role
  abbrev pub IsQueueMade : Kind → (nodes limit : ℕ) → List Role → QueueOf T A bits g → List (Seat T) → Type 0
  IsQueueMade kind nodes limit roles q seats = IsMade (value_plan bits kind nodes limit roles) (arena_of q) seats

-- what a seat of this number knows that has made no call: it has seen nothing, and nothing is its own
abbrev pub newcomer : {A : Type 0} → ℕ → KnownOf A
newcomer n = record { number = n; seen = []; mine = []; notes = [] }

-- these are all the seats of a new queue: one for each permit, numbered from 1 on, and none has made a call
pub record AreNewOf {A : Type 0} (permits : List Permit) (seats : List (KnownOf A)) : Type 0 where
  pub count : length seats ≡ length permits
  pub each : (k : ℕ) (s : KnownOf A) → slice_get seats k ≡ Some s → s ≡ newcomer (k + 1)
