-- A value was popped.
use Rattle.std.proofs.Common.{refl}
use Rattle.shared_queue.proofs.stepped.SteppedQueue.look_for_value.Goals as goal

pub returns-then-is_some-clause-looks : goal.returns-then-is_some-clause-looks
returns-then-is_some-clause-looks g c = record { front = c.in-Ok-Some.front; value = refl; popped = rw c.in-Ok-Some.field-0-is at c.in-Ok-Some.ensures.answer }

pub returns-else-is_some-clause-looks : goal.returns-else-is_some-clause-looks
returns-else-is_some-clause-looks g c = record { front = c.in-Ok-Some.front; value = refl; popped = rw c.in-Ok-Some.field-0-is at c.in-Ok-Some.ensures.answer }
