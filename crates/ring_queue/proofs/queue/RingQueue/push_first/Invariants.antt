use Rattle.ring_queue.proofs.queue.RingQueue.push_first.Given as goal

abbrev pub ghost-claim : goal.ghost-claim
ghost-claim g a = a.bodies.now
