use Rattle.ring_queue.specs.Beside.{TellsQuiet}
use Rattle.ring_queue.specs.Steps.{HeadFound}
use Rattle.ring_queue.proofs.queue.RingQueue.look_at_head.Given as goal

abbrev pub ghosts-load : goal.ghosts-load
ghosts-load g a = record { then = λ _. TellsQuiet a.self.now.key.carries a.self.now.key (HeadFound a.self.now.key) }
