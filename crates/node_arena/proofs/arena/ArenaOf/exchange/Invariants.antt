use Rattle.node_arena.specs.Beside.{TellsBeside}
use Rattle.node_arena.proofs.arena.ArenaOf.exchange.Given as goal

abbrev pub ghosts-compare_exchange : goal.ghosts-compare_exchange
ghosts-compare_exchange g a = record { then = λ _. TellsBeside a.self.now.key g.prologue }
