-- All from here on begin behind the limit.
use Rattle.std.proofs.Common.{sym, ◌∙◌}
use Rattle.waiting_orders.proofs.Limits.{none_until}
use Rattle.waiting_orders.proofs.lines.Rest.until.Goals as goal

pub returns-then-begins_past_at : goal.returns-then-begins_past_at
returns-then-begins_past_at c =
    record { past = none_until c.loop-place.place c.args.operations.now c.args.limit c.requires (sym c.begins_past_at.ensures ∙ c.if-begins_past_at.true) }
