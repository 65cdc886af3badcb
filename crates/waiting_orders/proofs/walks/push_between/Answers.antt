-- What stands at the place that is gone is the push.
use Rattle.std.proofs.Common.{slice_get, sym, ap, ◌∙◌}
use Rattle.waiting_orders.specs.Nodes.{view}
use Rattle.waiting_orders.proofs.Reading.{no_push, push_is}
use Rattle.waiting_orders.proofs.walks.push_between.Goals as goal

pub returns-then-takes : goal.returns-then-takes
returns-then-takes c = λ leads some.
    c.operation_at.ensures ∙ ap (λ l. slice_get l c.gone.result) c.deref.ensures.value ∙ push_is c.args.board.now (view c.args.from.now) (view c.args.to.now) leads (some ∙ c.if-takes.true) c.gone.result c.gone.ensures

pub returns-else-takes : goal.returns-else-takes
returns-else-takes c = λ leads some. sym (no_push leads.push (some ∙ c.if-takes.false))
