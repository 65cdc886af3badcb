use Rattle.ring_queue.proofs.Moments.{held_up}
use Rattle.ring_queue.proofs.laws.who_holds_pops_up_is_named.Goals as goal

pub returns : goal.returns
returns c = held_up
