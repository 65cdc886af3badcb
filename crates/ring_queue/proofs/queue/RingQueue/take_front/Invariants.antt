use Rattle.ring_queue.proofs.queue.RingQueue.take_front.Given as goal

abbrev pub ghost-raise_head : goal.ghost-raise_head
ghost-raise_head g a = a.words.now
