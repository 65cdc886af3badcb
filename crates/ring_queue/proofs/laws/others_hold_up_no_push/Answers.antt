-- The lemma is the law.
use Rattle.ring_queue.proofs.Alone.{hold_up_no_push}
use Rattle.ring_queue.proofs.laws.others_hold_up_no_push.Goals as goal

pub returns : goal.returns
returns c = hold_up_no_push
