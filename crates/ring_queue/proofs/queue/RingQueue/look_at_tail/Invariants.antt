use Rattle.ring_queue.specs.Beside.{TellsQuiet}
use Rattle.ring_queue.specs.Steps.{TailFound}
use Rattle.ring_queue.proofs.queue.RingQueue.look_at_tail.Given as goal

abbrev pub ghosts-load : goal.ghosts-load
ghosts-load g a = record { then = λ _. TellsQuiet a.self.now.key.carries a.self.now.key (TailFound a.self.now.key) }
