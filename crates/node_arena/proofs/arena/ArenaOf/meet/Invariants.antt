use Rattle.node_arena.specs.Beside.{MeetsBeside}
use Rattle.node_arena.proofs.arena.ArenaOf.meet.Given as goal

abbrev pub ghosts-load : goal.ghosts-load
ghosts-load g a = record { then = λ st me n m. MeetsBeside a.self.now.key me m }
