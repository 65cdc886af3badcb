use Rattle.ring_queue.specs.Beside.{TellsQuiet}
use Rattle.ring_queue.specs.Steps.{NextFound}
use Rattle.ring_queue.proofs.queue.RingQueue.look_next.Given as goal

abbrev pub ghosts-load : goal.ghosts-load
ghosts-load g a = record { then = λ _. TellsQuiet a.self.now.key.carries a.self.now.key (NextFound a.self.now.key g.before) }
