use Rattle.ring_queue.proofs.queue.RingQueue.take_value_there.Given as goal

abbrev pub ghost-raise_for : goal.ghost-raise_for
ghost-raise_for g a = (a.word, a.value.now)
