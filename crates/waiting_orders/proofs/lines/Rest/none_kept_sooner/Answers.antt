-- None of those kept before the next place ended before the number.
use Rattle.std.proofs.Common.{sym, ◌∙◌}
use Rattle.waiting_orders.proofs.GoingAlone.{kept_next}
use Rattle.waiting_orders.proofs.lines.Rest.none_kept_sooner.Goals as goal

pub loop-at-preserved : goal.loop-at-preserved
loop-at-preserved c =
    kept_next c.args.value.now c.args.last c.loop-at.at c.args.operations.now c.args.self.now.kept.items (sym c.kept_sooner_at.ensures ∙ c.if-kept_sooner_at.false) c.loop-at.invariant
