use Rattle.ring_queue.specs.Knowledge.{knows}
use Rattle.ring_queue.specs.Beside.{TellsBeside}
use Rattle.ring_queue.specs.Steps.{pushes, PlacesClaimed}
use Rattle.ring_queue.proofs.queue.RingQueue.claim.Given as goal

abbrev pub ghosts-compare_exchange : goal.ghosts-compare_exchange
ghosts-compare_exchange g a = record { then = λ _ me. TellsBeside a.self.now.key.carries a.self.now.key (pushes (knows me.0.plain).number g.pushed) (PlacesClaimed a.self.now.key g.pushed) me }
