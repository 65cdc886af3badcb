-- What stands at the place that is gone is what went.
use Rattle.std.proofs.Common.{◌≡◌, Some, slice_get, sym, ap, ◌∙◌}
use Rattle.waiting_orders.specs.Nodes.{view}
use Rattle.waiting_orders.proofs.Reading.{other_is, takes_push, went_is}
use Rattle.waiting_orders.proofs.walks.push_went.Goals as goal

pub returns-in_ok-push-in-Some : goal.returns-in_ok-push-in-Some
returns-in_ok-push-in-Some c = λ leads.
    let s = view c.args.from.now in
    let u = view c.args.to.now in
    let other : Some c.in-Some.other ≡ Some leads.other.operation =
    sym c.in-Some.is ∙ c.operation_at.ensures ∙ ap (λ l. slice_get l c.gone.result) c.deref.ensures.value ∙ other_is c.args.board.now s u leads c.gone.result c.gone.ensures in
    let push = c.push_between-push.ensures leads (takes_push c.args.board.now s u leads c.in-Some.other other c.takes.result c.takes.ensures) in (
      record { other = c.in-Some.other; push = c.push_between-push.result; time = c.args.to.now.time },
      c.in_ok-push-in-Some.ensures.items,
      went_is c.args.board.now s u leads c.in-Some.other c.push_between-push.result other push,
    )

pub returns-in-None : goal.returns-in-None
returns-in-None c = λ leads.
    let s = view c.args.from.now in
    let u = view c.args.to.now in
    let k = sym c.in-None.is ∙ c.operation_at.ensures ∙ ap (λ l. slice_get l c.gone.result) c.deref.ensures.value ∙ other_is c.args.board.now s u leads c.gone.result c.gone.ensures in
    absurd cc
