use Rattle.ring_queue.specs.Beside.{TellsQuiet}
use Rattle.ring_queue.specs.Steps.{ShutMade}
use Rattle.ring_queue.proofs.queue.RingQueue.set_shut.Given as goal

abbrev pub ghosts-fetch_or : goal.ghosts-fetch_or
ghosts-fetch_or g a = record { then = λ _. TellsQuiet a.self.now.key.carries a.self.now.key (ShutMade a.self.now.key) }
