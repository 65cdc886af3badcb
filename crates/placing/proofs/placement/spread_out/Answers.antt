use Rattle.std.proofs.Common.{◌≡◌, true, false, IfSome, IsSome, sym, subst, arith}
use Rattle.placing.specs.Orders.{ArePoints}
use Rattle.placing.proofs.Pointing.{order_in_time, order_is_short, spread_is_yes}
use Rattle.placing.proofs.placement.spread_out.Goals as goal

pub returns-in-Some-clause-placed : goal.returns-in-Some-clause-placed
returns-in-Some-clause-placed c = λ short is.
    let numbers = c.in_ok-spread.spread.numbers.items in
    let width = c.in_ok-spread.spread.width in
    let put = subst (λ r. IfSome r (λ points. ArePoints c.args.history.now numbers width c.args.order.now points.items)) c.in-Some.is c.in_ok-points.ensures.points in
    spread_is_yes (λ v. v.items) c.args.history.now c.args.order.now numbers width c.deref.result.now c.history.result c.requires is
    c.in_ok-spread.ensures.all (c.in_ok-spread.ensures.wide short)
    (subst (ArePoints c.args.history.now numbers width c.args.order.now) (sym c.deref.ensures.value) put)
    c.history.ensures.spread c.history.ensures.points (c.history.ensures.some (c.in_ok-spread.ensures.room short))

pub returns-clause-placed : goal.returns-clause-placed
returns-clause-placed c = λ short is.
    let wide = c.in_ok-spread.ensures.wide short in
    let few = order_is_short c.args.history.now c.args.order.now is in
    let some = c.in_ok-points.ensures.some (c.in_ok-spread.ensures.room short) (omega (arith, wide, few)) (order_in_time c.args.history.now c.args.order.now c.requires is) in
    let never : false ≡ true = subst IsSome c.in-None.is some in
    cc never
