-- Pushes are put in until none is to come.
use Rattle.std.proofs.Common.{drop, refl, arith, tests}
use Rattle.waiting_orders.proofs.Listing.{put_all_end, put_all_next}
use Rattle.waiting_orders.proofs.orders.Listing.put_all.Goals as goal

pub loop-self-init : goal.loop-self-init
loop-self-init c = record { operations = refl; rest = refl; next = refl; taken = refl }

pub loop-self-preserved : goal.loop-self-preserved
loop-self-preserved c =
    put_all_next c.args.pushes.now (drop c.args.self.now.next c.args.pushes.now) c.args.self.now c.loop-self.self c.put_next.new.self c.loop-self.invariant
    (grind (arith, tests, c.loop-self-test.true)) c.in_ok-put_next.ensures

pub returns : goal.returns
returns c =
    put_all_end c.args.pushes.now (drop c.args.self.now.next c.args.pushes.now) c.args.self.now c.loop-self.self c.loop-self.invariant
    (grind (arith, tests, c.loop-self-test.false))
