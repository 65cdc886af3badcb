use Rattle.ring_queue.specs.Beside.{MeetsBeside}
use Rattle.ring_queue.proofs.queue.RingQueue.meet_at_rest.Given as goal

abbrev pub ghosts-load : goal.ghosts-load
ghosts-load g a = record { then = λ _ me _ m. MeetsBeside a.self.now.key.carries a.self.now.key me m }
