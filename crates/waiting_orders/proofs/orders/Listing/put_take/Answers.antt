-- A pop is put in behind its push and those that have to be before it.
use Rattle.std.proofs.Common.{◌≤◌, sym, ap, ◌∙◌, subst}
use Rattle.waiting_orders.proofs.Listing.{fewer_then, fewer_put, took_so}
use Rattle.waiting_orders.proofs.orders.Listing.put_take.Goals as goal

pub returns-clause-fewer : goal.returns-clause-fewer
returns-clause-fewer c =
    subst (λ n. c.take.new.self.taken ≤ n) (sym c.take.ensures.same.1)
    (fewer_then c.put_due.new.self.next c.put_due.new.self.taken c.take.new.self.taken
    (fewer_put c.args.self.now c.put_push.new.self c.put_due.new.self c.args.pushes.now c.args.went.now.time c.requires.fewer c.in_ok-put_push.ensures.none c.in_ok-put_push.ensures.held c.in_ok-put_due.ensures)
    c.take.ensures.taken)

pub returns-clause-put : goal.returns-clause-put
returns-clause-put c = λ more.
    took_so c.args.went.now.other c.args.went.now.time c.args.pushes.now c.args.self.now c.put_push.new.self c.put_due.new.self c.take.new.self c.requires.fewer
    c.in_ok-put_push.ensures.none c.in_ok-put_push.ensures.held c.in_ok-put_due.ensures (ap (λ v. v.items) c.take.ensures.same.0 ∙ c.in_ok-push.ensures.items) c.take.ensures.same.1 c.take.ensures.taken more
