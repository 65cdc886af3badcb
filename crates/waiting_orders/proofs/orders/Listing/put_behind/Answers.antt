-- The operation at a place, if there is that place.
use Rattle.std.proofs.Common.{◌++◌, drop, sym, ap, ◌∙◌}
use Rattle.waiting_orders.specs.Listed.{merged}
use Rattle.waiting_orders.proofs.Listing.{merged_next, none_at_place}
use Rattle.waiting_orders.proofs.orders.Listing.put_behind.Goals as goal

pub returns-in_ok-push-in-Some : goal.returns-in_ok-push-in-Some
returns-in_ok-push-in-Some c =
    merged_next c.args.asides.now c.args.list.now c.args.at c.in-Some.operation (sym c.operation_at.ensures ∙ c.in-Some.is) c.args.self.now c.put_due.new.self c.in_ok-put_due-in-Some.ensures _ c.in_ok-push-in-Some.ensures.items

pub returns-in-None : goal.returns-in-None
returns-in-None c =
    ap (λ os. c.args.self.now.operations.items ++ merged (drop c.args.self.now.next c.args.asides.now) os) (none_at_place c.args.list.now c.args.at (sym c.operation_at.ensures ∙ c.in-None.is))
