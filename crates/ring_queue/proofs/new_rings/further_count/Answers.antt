use Rattle.std.proofs.Common.{ap, sym, arith}
use Rattle.ring_queue.specs.Plans.{Layout}
use Rattle.ring_queue.proofs.Placing.{none_further, two_further}
use Rattle.ring_queue.proofs.new_rings.further_count.Goals as goal

pub returns-then-plan-lt2 : goal.returns-then-plan-lt2
returns-then-plan-lt2 c =
    let wide = ap (λ (z : Layout). z.width) c.plan.view_is in
    let lt = c.if-plan-lt2.true in
    sym (none_further c.args.plan.now.width c.args.plan.now.slots (omega (arith, lt, wide)))

pub returns-else-plan-lt2 : goal.returns-else-plan-lt2
returns-else-plan-lt2 c =
    let wide = ap (λ (z : Layout). z.width) c.plan.view_is in
    let same = ap (λ (z : Layout). z.slots) c.plan.view_is in
    let more = c.if-plan-lt2.false in
    let is = two_further c.args.plan.now.width c.args.plan.now.slots (omega (arith, more, wide)) in
    omega (arith, is, same)
