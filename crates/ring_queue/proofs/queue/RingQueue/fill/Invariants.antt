use Rattle.ring_queue.specs.Beside.{TellsQuiet}
use Rattle.ring_queue.specs.Steps.{PlaceFilledBy}
use Rattle.ring_queue.proofs.queue.RingQueue.fill.Given as goal

abbrev pub ghosts-store : goal.ghosts-store
ghosts-store g a = record { then = λ _. TellsQuiet a.self.now.key.carries a.self.now.key (PlaceFilledBy a.self.now.key a.word a.new) }
