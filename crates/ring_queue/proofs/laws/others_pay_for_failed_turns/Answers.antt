use Rattle.ring_queue.proofs.Shares.{others_pay}
use Rattle.ring_queue.proofs.laws.others_pay_for_failed_turns.Goals as goal

pub returns : goal.returns
returns c = others_pay
