use Rattle.std.proofs.Common.{[], ◌∷◌, ◌++◌}
use Rattle.ring_queue.specs.Placed.{loading}
use Rattle.ring_queue.specs.PlacedSeats.{TellsHand}
use Rattle.ring_queue.proofs.queue.RingQueue.load_part.Given as goal

abbrev pub ghosts-load : goal.ghosts-load
ghosts-load g a = record { then = λ _. TellsHand a.self.now.key (λ n. loading (g.read ++ n ∷ [])) }
