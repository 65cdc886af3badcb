use Rattle.ring_queue.proofs.Moments.{determined}
use Rattle.ring_queue.proofs.laws.slots_are_determined.Goals as goal

pub returns : goal.returns
returns c = determined
