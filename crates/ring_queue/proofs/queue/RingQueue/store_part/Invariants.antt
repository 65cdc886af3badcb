use Rattle.std.proofs.Common.{◌+◌}
use Rattle.ring_queue.specs.Placed.{storing}
use Rattle.ring_queue.specs.PlacedSeats.{TellsHand}
use Rattle.ring_queue.proofs.queue.RingQueue.store_part.Given as goal

abbrev pub ghosts-store : goal.ghosts-store
ghosts-store g a = record { then = λ _. TellsHand a.self.now.key (λ _. storing g.due.0 (g.due.1 + 1)) }
