use Rattle.ring_queue.specs.PlacedSeats.{TellsClaim}
use Rattle.ring_queue.proofs.queue.RingQueue.claim_for.Given as goal

abbrev pub ghosts-compare_exchange : goal.ghosts-compare_exchange
ghosts-compare_exchange g a = record { then = λ _ me. TellsClaim a.self.now.key g.pushing me }
