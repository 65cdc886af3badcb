use Rattle.ring_queue.proofs.Deals.{made_for, made_numbers}
use Rattle.ring_queue.proofs.Openings.{ok_on, made_ready, made_permits, made_new}
use Rattle.ring_queue.proofs.new_rings.RingQueue.new.Goals as goal

pub returns-clause-ok : goal.returns-clause-ok
returns-clause-ok c = ok_on _ _ (λ r m. made_numbers _ _ _ _ _ (made_for _ _ _ _ _ _ m)) c.made.result c.made.ensures.ok

pub returns-clause-permits : goal.returns-clause-permits
returns-clause-permits c = ok_on _ _ (λ r m. made_permits _ _ _ _ _ (made_numbers _ _ _ _ _ (made_for _ _ _ _ _ _ m))) c.made.result c.made.ensures.ok

pub returns-clause-seats : goal.returns-clause-seats
returns-clause-seats c = ok_on _ _ (λ r m. made_ready _ _ _ _ _ (made_numbers _ _ _ _ _ (made_for _ _ _ _ _ _ m))) c.made.result c.made.ensures.ok

pub returns-clause-unused : goal.returns-clause-unused
returns-clause-unused c = ok_on _ _ (λ r m. made_new _ _ _ _ _ (made_numbers _ _ _ _ _ (made_for _ _ _ _ _ _ m))) c.made.result c.made.ensures.ok
