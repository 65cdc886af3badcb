use Rattle.waiting_orders.proofs.Gone.{SameTo}
use Rattle.waiting_orders.proofs.walks.first_gone.Given as goal

abbrev pub invariant-loop-at : goal.invariant-loop-at
invariant-loop-at l = SameTo l.at l.kept l.after
