-- A queue on an arena as a queue with seats.
use Rattle.std.specs.Prelude.{ℕ, List}
use Rattle.line_table.specs.declared.lines.Kind.{Kind}
use Rattle.history.specs.Seats.{Permit}
use Rattle.node_arena.specs.declared.roles.Role.{Role}
use Rattle.node_arena.specs.Arenas.{Arena}
use Rattle.node_arena.specs.declared.seats.Seat.{Seat}
use Rattle.node_arena.specs.Seats as seats
use Rattle.node_arena.specs.Seats.{IsReady}
use Rattle.node_arena.specs.NewArenas.{plan, IsMade}
use Rattle.arena_queue.specs.declared.algorithms.Algorithm.{Ghosts}
use Rattle.arena_queue.specs.declared.queue.ArenaQueueOf.{ArenaQueueOf}

-- the arena of a queue
abbrev pub arena_of : {A : Type 0} {bits : ℕ} {g : Ghosts A bits} → ArenaQueueOf A bits g → Arena
arena_of q = q.arena

-- what each seat of a queue may do
abbrev pub permits_of : {A : Type 0} {bits : ℕ} {g : Ghosts A bits} → ArenaQueueOf A bits g → List Permit
permits_of q = seats.permits_of (arena_of q)

-- a seat of a queue, in no call
abbrev pub IsQueueSeat : {A : Type 0} {bits : ℕ} {g : Ghosts A bits} → ArenaQueueOf A bits g → Seat (Unit {0}) → Type 0
IsQueueSeat q s = IsReady (arena_of q) s

-- a new queue of a kind, of so many nodes and this greatest count, with a new seat for each role
abbrev pub IsQueueMade : {A : Type 0} {bits : ℕ} {g : Ghosts A bits} → Kind → (nodes limit : ℕ) → List Role → ArenaQueueOf A bits g → List (Seat (Unit {0})) → Type 0
IsQueueMade {bits = bits} kind nodes limit roles q seats = IsMade (plan bits kind nodes limit roles) (arena_of q) seats
