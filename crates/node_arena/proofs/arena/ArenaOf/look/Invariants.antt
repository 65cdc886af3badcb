use Rattle.node_arena.proofs.Looking.{LooksBeside}
use Rattle.node_arena.proofs.arena.ArenaOf.look.Given as goal

abbrev pub ghosts-load : goal.ghosts-load
ghosts-load g a = record { then = λ st me n m. LooksBeside a.self.now.key a.word me n m }
