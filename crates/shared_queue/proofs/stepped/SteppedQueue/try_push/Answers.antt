-- The push that it made, or what it was told.
use Rattle.shared_queue.proofs.TriedCalls.{pushed_whole, push_in_vain}
use Rattle.shared_queue.proofs.stepped.SteppedQueue.try_push.Goals as goal

pub returns-in-Got-clause-comes : goal.returns-in-Got-clause-comes
returns-in-Got-clause-comes g c = pushed_whole _ _ _ _ (rw c.in-Got.is at c.look_for_room.ensures.looks) _ c.ring_for.ensures

pub returns-in_default-clause-comes : goal.returns-in_default-clause-comes
returns-in_default-clause-comes g c = rw c.told_at.ensures (push_in_vain _ _ _ _ c.look_for_room.result c.look_for_room.ensures.looks)
