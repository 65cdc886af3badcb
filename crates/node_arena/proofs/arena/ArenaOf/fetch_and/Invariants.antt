use Rattle.node_arena.specs.Beside.{TellsBeside}
use Rattle.node_arena.proofs.arena.ArenaOf.fetch_and.Given as goal

abbrev pub ghosts-fetch_and : goal.ghosts-fetch_and
ghosts-fetch_and g a = record { then = λ _. TellsBeside a.self.now.key g.prologue }
