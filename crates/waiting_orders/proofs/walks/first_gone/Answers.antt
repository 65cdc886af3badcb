-- The first place at which they differ, or at which the one ends, has what is gone.
use Rattle.std.proofs.Common.{◌≡◌, inl, inr, length, ◌∙◌, subst, arith}
use Rattle.std.proofs.lemmas.Option.{slice_get_past}
use Rattle.waiting_orders.proofs.Gone.{SameTo, first_gone_is, same_more, same_none}
use Rattle.waiting_orders.proofs.walks.first_gone.Goals as goal

pub loop-at-init : goal.loop-at-init
loop-at-init c = same_none c.args.kept.now c.args.after.now

pub loop-at-preserved : goal.loop-at-preserved
loop-at-preserved c = same_more c.loop-at.at c.args.kept.now c.args.after.now c.loop-at.invariant (c.differ_at.ensures.no c.if-differ_at.false)

pub returns-then-differ_at : goal.returns-then-differ_at
returns-then-differ_at c = λ at place e f.
    c.place_or_first.ensures ∙ first_gone_is c.args.kept.now c.args.after.now c.loop-at.at c.loop-at.invariant (inr (c.differ_at.ensures.yes c.if-differ_at.true)) at place e f

pub returns : goal.returns
returns c = λ at place e f.
    let end : c.loop-at.at ≡ length c.args.after.now = omega (arith, c.loop-at-test.false, c.loop-at.auto.at-end) in
    c.place_or_first-2.ensures
    ∙ first_gone_is c.args.kept.now c.args.after.now (length c.args.after.now) (subst (λ n. SameTo n c.args.kept.now c.args.after.now) end c.loop-at.invariant)
    (inl (slice_get_past c.args.after.now (length c.args.after.now) (omega arith))) at place e f
