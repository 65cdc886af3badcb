-- All that begin behind a number end behind it, and none before the next place ended before it.
use Rattle.std.proofs.Common.{sym, ◌∙◌}
use Rattle.waiting_orders.proofs.GoingAlone.{later_next, past_all}
use Rattle.waiting_orders.proofs.ending.none_sooner.Goals as goal

pub returns-then-begins_past_at : goal.returns-then-begins_past_at
returns-then-begins_past_at c = λ e.
    past_all c.args.value.now c.args.last c.loop-place.place c.args.operations.now c.requires (sym c.begins_past_at.ensures ∙ c.if-begins_past_at.true) c.loop-place.invariant

pub loop-place-preserved : goal.loop-place-preserved
loop-place-preserved c =
    later_next c.args.value.now c.args.last c.loop-place.place c.args.operations.now (sym c.sooner_at.ensures ∙ c.if-sooner_at.false) c.loop-place.invariant
