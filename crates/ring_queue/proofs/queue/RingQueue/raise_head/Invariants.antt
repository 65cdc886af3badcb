use Rattle.ring_queue.specs.Knowledge.{knows}
use Rattle.ring_queue.specs.Beside.{TellsBeside}
use Rattle.ring_queue.specs.Steps.{pops, FrontsTaken}
use Rattle.ring_queue.proofs.queue.RingQueue.raise_head.Given as goal

abbrev pub ghosts-compare_exchange : goal.ghosts-compare_exchange
ghosts-compare_exchange g a = record { then = λ _ me. TellsBeside a.self.now.key.carries a.self.now.key (pops (knows me.0.plain).number g.taken) (FrontsTaken a.self.now.key g.taken) me }
