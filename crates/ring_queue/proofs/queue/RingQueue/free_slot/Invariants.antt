use Rattle.ring_queue.proofs.Handing.{Frees}
use Rattle.ring_queue.proofs.queue.RingQueue.free_slot.Given as goal

abbrev pub ghosts-store : goal.ghosts-store
ghosts-store g a = record { then = λ st me n m. Frees me m }
