-- The pop that it made, or what it was told.
use Rattle.shared_queue.proofs.TriedCalls.{popped_whole, popped_then_gave, pop_in_vain}
use Rattle.shared_queue.proofs.stepped.SteppedQueue.try_pop.Goals as goal

pub returns-in-Got-clause-comes : goal.returns-in-Got-clause-comes
returns-in-Got-clause-comes g c = popped_whole _ _ _ _ (rw c.in-Got.is at c.look_for_value.ensures.looks) _ c.ring_for.ensures

pub returns-in-Took-clause-comes : goal.returns-in-Took-clause-comes
returns-in-Took-clause-comes g c = popped_then_gave _ _ _ _ (rw c.in-Took.is at c.look_for_value.ensures.looks) _ c.ring_for-in-Took.ensures

pub returns-in_default-clause-comes : goal.returns-in_default-clause-comes
returns-in_default-clause-comes g c = rw c.told_at.ensures (pop_in_vain _ _ _ _ c.look_for_value.result c.look_for_value.ensures.looks)
