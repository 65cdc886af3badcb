use Rattle.ring_queue.proofs.Openings.{ok_on, made_words}
use Rattle.ring_queue.proofs.queue.RingQueue.with_words.Goals as goal

pub returns-clause-seats : goal.returns-clause-seats
returns-clause-seats g c = ok_on _ _ (λ r m. made_words _ _ _ _ _ _ m) c.made.result c.made.ensures.ok
