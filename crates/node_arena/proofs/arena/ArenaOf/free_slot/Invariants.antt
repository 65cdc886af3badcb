use Rattle.node_arena.proofs.Handing.{Frees}
use Rattle.node_arena.proofs.arena.ArenaOf.free_slot.Given as goal

abbrev pub ghosts-store : goal.ghosts-store
ghosts-store g a = record { then = λ st me n m. Frees me m }
