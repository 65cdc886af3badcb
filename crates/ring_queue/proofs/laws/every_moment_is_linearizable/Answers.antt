use Rattle.ring_queue.proofs.Moments.{moments}
use Rattle.ring_queue.proofs.laws.every_moment_is_linearizable.Goals as goal

pub returns : goal.returns
returns c = moments
