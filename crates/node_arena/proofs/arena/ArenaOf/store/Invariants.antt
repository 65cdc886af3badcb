use Rattle.node_arena.specs.Beside.{TellsNoneBeside}
use Rattle.node_arena.proofs.arena.ArenaOf.store.Given as goal

abbrev pub ghosts-store : goal.ghosts-store
ghosts-store g a = record { then = λ _ me _ m. TellsNoneBeside a.self.now.key g.prologue me m }
