use Rattle.ring_queue.proofs.Deals.{made_for}
use Rattle.ring_queue.proofs.Openings.{ok_on}
use Rattle.ring_queue.proofs.queue.RingQueue.with_slots.Goals as goal

pub returns-clause-ok : goal.returns-clause-ok
returns-clause-ok g c = ok_on _ _ (λ r m. made_for _ _ _ _ _ _ m) c.made.result c.made.ensures.ok
