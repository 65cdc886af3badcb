use Rattle.ring_queue.proofs.fifo.RingQueueFifo.meet.Goals as goal

pub meet_seats-requires-clause-apart : goal.meet_seats-requires-clause-apart
meet_seats-requires-clause-apart c = (c.requires.one.ready.sits.none_out c.requires.one.numbers, c.requires.other.ready.sits.none_out c.requires.other.numbers)
