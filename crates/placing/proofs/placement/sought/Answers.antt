use Rattle.std.proofs.Common.{All, sym, subst}
use Rattle.waiting_orders.specs.Indexed.{IsOrder}
use Rattle.waiting_orders.specs.Search.{WhereOrder}
use Rattle.waiting_orders.specs.Waiting.{IsCall, IsOfQueue}
use Rattle.placing.proofs.Whole.{calls_of}
use Rattle.placing.proofs.placement.sought.Goals as goal

-- The history is one of a queue by the order that was found.
pub by_order-requires-clause-is_of_queue : goal.by_order-requires-clause-is_of_queue
by_order-requires-clause-is_of_queue c =
    let ops = c.args.history.now in
    (subst (λ found. WhereOrder found (λ order. All IsCall ops → IsOfQueue ops × IsOrder ops order)) c.in-Ok-Order.field-0-is c.in-Ok-Order.ensures.order (calls_of ops c.requires)).0

pub by_order-requires-clause-order : goal.by_order-requires-clause-order
by_order-requires-clause-order c =
    let ops = c.args.history.now in
    subst (IsOrder ops) (sym c.deref.ensures.value)
    (subst (λ found. WhereOrder found (λ order. All IsCall ops → IsOfQueue ops × IsOrder ops order)) c.in-Ok-Order.field-0-is c.in-Ok-Order.ensures.order (calls_of ops c.requires)).1

pub returns-in-Ok-Order-clause-cause : goal.returns-in-Ok-Order-clause-cause
returns-in-Ok-Order-clause-cause c = c.by_order.ensures.cause c.args.room
