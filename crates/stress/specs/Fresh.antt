-- Seats of an arena that may begin a call, with empty pockets.
use Rattle.std.specs.Prelude.{◌≡◌, None}
use Rattle.node_arena.specs.Arenas.{Arena}
use Rattle.node_arena.specs.declared.seats.Seat.{Seat}
use Rattle.node_arena.specs.Seats.{IsReady, pocket_of}

-- a seat may begin a call, and its pocket is empty
abbrev pub IsFresh : {T : Type 0} → Arena → Seat T → Type 0
IsFresh r s = IsReady r s × (pocket_of s ≡ None)
