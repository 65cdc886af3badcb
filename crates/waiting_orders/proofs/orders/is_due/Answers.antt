-- The limit at a place is the least last number from there on.
use Rattle.std.proofs.Common.{◌≡◌, Some, None, not, drop, slice_get, sym, ap, ◌∙◌, subst}
use Rattle.waiting_orders.specs.Waiting.{is_open_at}
use Rattle.waiting_orders.specs.Listed.{all_open}
use Rattle.waiting_orders.specs.Listing.{leasts}
use Rattle.waiting_orders.proofs.Listing.{least_at, none_at, open_least}
use Rattle.waiting_orders.proofs.orders.is_due.Goals as goal

pub returns-in-Some : goal.returns-in-Some
returns-in-Some c = λ operations e.
    let there : slice_get (leasts operations) c.args.place ≡ Some c.in-Some.limit = subst (λ l. slice_get l c.args.place ≡ Some c.in-Some.limit) e (sym c.limit_at.ensures ∙ c.in-Some.is) in
    ap not (c.is_open_at.ensures ∙ ap (is_open_at c.args.time) (least_at operations c.args.place c.in-Some.limit there) ∙ open_least c.args.time (drop c.args.place operations))

pub returns-in-None : goal.returns-in-None
returns-in-None c = λ operations e.
    let none : slice_get (leasts operations) c.args.place ≡ None = subst (λ l. slice_get l c.args.place ≡ None) e (sym c.limit_at.ensures ∙ c.in-None.is) in
    sym (ap (λ ps. not (all_open c.args.time ps)) (none_at operations c.args.place none))
