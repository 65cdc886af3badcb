use Rattle.ring_queue.specs.PlacedSeats.{TellsTake}
use Rattle.ring_queue.proofs.queue.RingQueue.raise_for.Given as goal

abbrev pub ghosts-compare_exchange : goal.ghosts-compare_exchange
ghosts-compare_exchange g a = record { then = λ _ me. TellsTake a.self.now.key g.read.0 g.read.1 me }
