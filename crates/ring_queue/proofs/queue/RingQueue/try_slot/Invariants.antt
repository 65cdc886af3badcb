use Rattle.ring_queue.proofs.Handing.{Tries}
use Rattle.ring_queue.proofs.queue.RingQueue.try_slot.Given as goal

abbrev pub ghosts-compare_exchange : goal.ghosts-compare_exchange
ghosts-compare_exchange g a = record { then = λ st me n m. Tries a.self.now.key a.word me n m }
