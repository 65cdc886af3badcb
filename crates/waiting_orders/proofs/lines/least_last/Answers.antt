-- The limit is lowered by the next one, until one begins behind it.
use Rattle.std.proofs.Common.{◌+◌, take, sym, ◌∙◌, subst}
use Rattle.waiting_orders.specs.Lines.{IsLimit}
use Rattle.waiting_orders.proofs.Limits.{limit_next, ends_limit}
use Rattle.waiting_orders.proofs.lines.least_last.Goals as goal

pub returns-then-begins_past_at : goal.returns-then-begins_past_at
returns-then-begins_past_at c =
    ends_limit c.loop-place.place c.args.operations.now c.loop-place.limit c.requires (sym c.begins_past_at.ensures ∙ c.if-begins_past_at.true) c.loop-place.invariant

pub loop-place-preserved : goal.loop-place-preserved
loop-place-preserved c =
    subst (IsLimit (take (c.loop-place.place + 1) c.args.operations.now)) (sym c.lowered_at-limit.ensures)
    (limit_next c.loop-place.place c.args.operations.now c.loop-place.limit c.loop-place.invariant)
