-- The next push, if there is one.
use Rattle.std.proofs.Common.{refl, sym, ◌∙◌}
use Rattle.waiting_orders.proofs.Listing.{puts_none, puts_one}
use Rattle.waiting_orders.proofs.orders.Listing.put_next.Goals as goal

pub returns-in_ok-push-in-Some : goal.returns-in_ok-push-in-Some
returns-in_ok-push-in-Some c = puts_one c.args.pushes.now c.args.self.now _ c.in-Some.push (sym c.operation_at.ensures ∙ c.in-Some.is) c.in_ok-push-in-Some.ensures.items refl refl

pub returns-in-None : goal.returns-in-None
returns-in-None c = puts_none c.args.pushes.now c.args.self.now (sym c.operation_at.ensures ∙ c.in-None.is)
