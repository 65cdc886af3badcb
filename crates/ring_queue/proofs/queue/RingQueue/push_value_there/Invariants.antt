use Rattle.ring_queue.proofs.queue.RingQueue.push_value_there.Given as goal

abbrev pub ghost-claim_for : goal.ghost-claim_for
ghost-claim_for g a = a.value.now
