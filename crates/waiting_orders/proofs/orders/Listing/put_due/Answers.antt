-- Pushes are put in as long as one is due.
use Rattle.std.proofs.Common.{drop, refl, sym, ◌∙◌}
use Rattle.waiting_orders.specs.Listed.{due_front, due_later}
use Rattle.waiting_orders.proofs.Listing.{put_due_end, put_due_next}
use Rattle.waiting_orders.proofs.orders.Listing.put_due.Goals as goal

pub loop-self-init : goal.loop-self-init
loop-self-init c = record { operations = refl; rest = refl; next = refl; taken = refl }

pub loop-self-preserved : goal.loop-self-preserved
loop-self-preserved c =
    let coming = drop c.args.self.now.next c.args.pushes.now in
    put_due_next c.args.time c.args.pushes.now (due_front c.args.time coming) (due_later c.args.time coming) c.args.self.now c.loop-self.self c.put_next.new.self c.loop-self.invariant
    (sym (c.is_due.ensures c.args.pushes.now c.requires) ∙ c.loop-self-test.true) c.in_ok-put_next.ensures

pub returns : goal.returns
returns c =
    let coming = drop c.args.self.now.next c.args.pushes.now in
    put_due_end c.args.time c.args.pushes.now (due_front c.args.time coming) (due_later c.args.time coming) c.args.self.now c.loop-self.self c.loop-self.invariant
    (sym (c.is_due.ensures c.args.pushes.now c.requires) ∙ c.loop-self-test.false)
