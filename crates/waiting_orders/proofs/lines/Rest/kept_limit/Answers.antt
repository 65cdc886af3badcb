-- The limit is lowered by the next one.
use Rattle.std.proofs.Common.{◌+◌, take, sym, subst}
use Rattle.waiting_orders.specs.Lines.{IsLimit, picked}
use Rattle.waiting_orders.proofs.Limits.{kept_limit_next}
use Rattle.waiting_orders.proofs.lines.Rest.kept_limit.Goals as goal

pub loop-at-preserved : goal.loop-at-preserved
loop-at-preserved c =
    subst (IsLimit (picked c.args.operations.now (take (c.loop-at.at + 1) c.args.self.now.kept.items))) (sym c.lowered_by_kept-limit.ensures)
    (kept_limit_next c.args.operations.now c.loop-at.at c.args.self.now.kept.items c.loop-at.limit c.loop-at.invariant)
