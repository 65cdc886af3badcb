use Rattle.node_arena.specs.Beside.{TellsBeside}
use Rattle.node_arena.proofs.arena.ArenaOf.load.Given as goal

abbrev pub ghosts-load : goal.ghosts-load
ghosts-load g a = record { then = λ _. TellsBeside a.self.now.key g.prologue }
