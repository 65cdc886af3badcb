-- Each limit is the least last number of an operation and those behind it, the last one first.
use Rattle.std.proofs.Common.{◌<◌, ◌-◌, length, reverse, refl, ap, ◌∙◌, arith, tests}
use Rattle.waiting_orders.proofs.Listing.{limits_next, limits_none}
use Rattle.waiting_orders.proofs.orders.limits.Goals as goal

pub loop-place-init : goal.loop-place-init
loop-place-init c =
    let none = limits_none c.args.operations.now (length c.args.operations.now) refl in
    (ap reverse c.new-limits.ensures.items ∙ none.0, none.1, none.2)

pub loop-place-preserved : goal.loop-place-preserved
loop-place-preserved c =
    let inv = c.loop-place.invariant in
    let more : 0 < c.loop-place.place = grind (arith, tests, c.loop-place-test.true) in
    let next = limits_next c.args.operations.now c.loop-place.limits.items c.push.new.self.items c.loop-place.limit c.lowered_at-limit.result c.loop-place.place (c.loop-place.place - 1) (omega (arith, more)) inv.2 inv.0 inv.1
    c.lowered_at-limit.ensures c.in_ok-push.ensures.items in
    (next.0, next.1, (let l = inv.2 in omega (arith, l)))
