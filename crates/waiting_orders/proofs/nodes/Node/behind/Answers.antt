-- There is none, where no pending pop may be placed.
use Rattle.std.proofs.Common.{sym, ◌∙◌}
use Rattle.waiting_orders.proofs.nodes.Node.behind.Goals as goal

pub returns-then-none_pending : goal.returns-then-none_pending
returns-then-none_pending c = λ e. absurd (cc (sym c.if-none_pending.true ∙ c.none_pending.ensures ∙ e))
