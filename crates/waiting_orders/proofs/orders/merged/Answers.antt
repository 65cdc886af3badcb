-- Each operation is put in behind what has to be before it, and then the rest.
use Rattle.std.proofs.Common.{◌∙◌, arith}
use Rattle.waiting_orders.proofs.Listing.{merged_end, merged_first}
use Rattle.waiting_orders.proofs.orders.merged.Goals as goal

pub loop-at-init : goal.loop-at-init
loop-at-init c = merged_first c.args.asides.now c.args.list.now c.new-order.result c.new-order.ensures.0 c.new-order.ensures.1

pub loop-at-preserved : goal.loop-at-preserved
loop-at-preserved c = c.in_ok-put_behind.ensures ∙ c.loop-at.invariant

pub returns : goal.returns
returns c = merged_end c.args.asides.now c.args.list.now c.loop-at.order c.put_all.new.self c.loop-at.at (omega (arith, c.loop-at-test.false)) c.loop-at.invariant c.in_ok-put_all.ensures
