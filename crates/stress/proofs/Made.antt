-- The seats of a new arena.
use Rattle.std.proofs.Common.{List, slice_index_or}
use Rattle.std.specs.List.{All}
use Rattle.std.proofs.lemmas.Option.{slice_get-get_or}
use Rattle.node_arena.specs.Arenas.{Arena}
use Rattle.node_arena.specs.declared.seats.Seat.{Seat}
use Rattle.node_arena.specs.Plans.{Layout}
use Rattle.node_arena.specs.NewArenas.{IsMade}
use Rattle.stress.specs.Fresh.{IsFresh}

-- each seat of a new arena may begin a call, with an empty pocket
pub made_fresh : {T : Type 0} (z : Layout) (r : Arena) (seats : List (Seat T)) → IsMade z r seats → All (IsFresh r) seats
made_fresh z r seats m k d lt = let n = m.each k (slice_index_or seats k d) (slice_get-get_or seats k d lt) in (n.ready, n.pocket)
