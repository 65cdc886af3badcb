use Rattle.ring_queue.specs.PlacedSeats.{TellsClose}
use Rattle.ring_queue.proofs.queue.RingQueue.shut_words.Given as goal

abbrev pub ghosts-fetch_or : goal.ghosts-fetch_or
ghosts-fetch_or g a = record { then = λ _. TellsClose a.self.now.key }
