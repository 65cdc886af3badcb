use Rattle.ring_queue.proofs.queue.RingQueue.meet_words.Goals as goal

pub meet_at_rest-requires-clause-apart : goal.meet_at_rest-requires-clause-apart
meet_at_rest-requires-clause-apart g c =
    let apart = c.args.self.now.laid.planned.apart c.requires.one.placed in
    (c.requires.one.ready.sits.none_out apart, c.requires.other.ready.sits.none_out apart)

pub returns-clause-said : goal.returns-clause-said
returns-clause-said g c = c.meet_at_rest.ensures.said c.requires.one.placed
