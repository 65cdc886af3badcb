-- The push that it made, or its rest.
use Rattle.shared_queue.proofs.TriedCalls.{took_then_pushed, took_in_vain}
use Rattle.shared_queue.proofs.stepped.SteppedQueue.push_at_place.Goals as goal

pub returns-in-Got-clause-comes : goal.returns-in-Got-clause-comes
returns-in-Got-clause-comes g c = took_then_pushed _ _ _ _ (rw c.in-Got.is at c.give_value.ensures.gives) _ c.ring_for.ensures

pub returns-in_default-clause-comes : goal.returns-in_default-clause-comes
returns-in_default-clause-comes g c = took_in_vain _ _ _ _ c.give_value.result c.give_value.ensures.gives c.in_default.not-Got
