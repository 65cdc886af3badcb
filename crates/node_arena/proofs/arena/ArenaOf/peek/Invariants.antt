use Rattle.node_arena.proofs.Gathers.{WasAt}
use Rattle.node_arena.proofs.arena.ArenaOf.peek.Given as goal

abbrev pub ghosts-load_new_seat : goal.ghosts-load_new_seat
ghosts-load_new_seat g a = record { then = λ _ _ n _. WasAt a.self.now.key a.word n }
