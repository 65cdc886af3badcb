-- Each that went is put in, one after another, and then the pushes that are to come.
use Rattle.std.proofs.Common.{◌≡◌, ◌+◌, ◌++◌, ◌-◌, Some, drop, length, slice_get, refl, ap, ◌∙◌, arith}
use Rattle.std.proofs.lemmas.Option.{slice_get_read}
use Rattle.waiting_orders.specs.Listed.{order_of}
use Rattle.waiting_orders.proofs.Listing.{listed_end, listed_first, put_at_place}
use Rattle.waiting_orders.proofs.orders.listed.Goals as goal

pub loop-went-init : goal.loop-went-init
loop-went-init c = (listed_first c.args.walk.now c.args.pushes.now c.new-order.result c.new-order.ensures.0 c.new-order.ensures.1 c.new-order.ensures.2, omega (arith, c.new-order.ensures.1, c.new-order.ensures.2))

pub loop-went-preserved : goal.loop-went-preserved
loop-went-preserved c =
    let walk = c.args.walk.now in
    let at = c.loop-went.went-index in
    let went = c.went-item.result in
    let old = c.loop-went.order in
    let there : slice_get walk at ≡ Some went = slice_get_read walk (length walk) at went refl c.loop-went-test.true c.went-item.is in (
      c.in_ok-put.ensures.put (λ held coming. order_of (drop (at + 1) walk) held coming)
          ∙ ap (λ l. old.operations.items ++ l) (put_at_place walk at went there (old.next - old.taken) (drop old.next c.args.pushes.now)) ∙ c.loop-went.invariant.0,
      c.in_ok-put.ensures.fewer,
    )

pub returns : goal.returns
returns c = listed_end c.args.walk.now c.args.pushes.now c.loop-went.order c.put_all.new.self c.loop-went.went-index (omega (arith, c.loop-went-test.false)) c.loop-went.invariant.0 c.in_ok-put_all.ensures
