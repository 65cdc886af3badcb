-- What is set aside isn't put in; else it takes a value, or doesn't.
use Rattle.std.proofs.Common.{◌-◌, ◌++◌, None, Some, true, false, drop, refl, sym, ap, ◌∙◌}
use Rattle.waiting_orders.specs.Listed.{shuts}
use Rattle.waiting_orders.proofs.Listing.{no_time, put_by_is}
use Rattle.waiting_orders.proofs.orders.Listing.put.Goals as goal

pub returns-then-is_aside-clause-put : goal.returns-then-is_aside-clause-put
returns-then-is_aside-clause-put c = λ more.
    let old = c.args.self.now in
    let w = c.args.went.now in
    ap (λ l. old.operations.items ++ l)
    (put_by_is _ true w.push w.push (sym c.is_aside.ensures ∙ c.if-is_aside.true) refl (shuts w.other.op w.other.reply) w.other w.time (old.next - old.taken) (drop old.next c.args.pushes.now) more)

pub returns-in_ok-put_take-in-Some-clause-put : goal.returns-in_ok-put_take-in-Some-clause-put
returns-in_ok-put_take-in-Some-clause-put c = λ more.
    let old = c.args.self.now in
    let w = c.args.went.now in
    c.in_ok-put_take-in-Some.ensures.put more
    ∙ ap (λ l. old.operations.items ++ l)
    (put_by_is _ false w.push (Some c.in-Some.field-0) (sym c.is_aside.ensures ∙ c.if-is_aside.false) c.in-Some.is (shuts w.other.op w.other.reply) w.other w.time (old.next - old.taken)
    (drop old.next c.args.pushes.now) more)

pub returns-in_ok-put_other-in-None-clause-put : goal.returns-in_ok-put_other-in-None-clause-put
returns-in_ok-put_other-in-None-clause-put c = λ more.
    let old = c.args.self.now in
    let w = c.args.went.now in
    let rest = drop old.next c.args.pushes.now in
    c.in_ok-put_other-in-None.ensures.put more
    ∙ ap (λ l. old.operations.items ++ l)
    (no_time (shuts w.other.op w.other.reply) w.other w.time (old.next - old.taken) rest more
    ∙ put_by_is _ false w.push None (sym c.is_aside.ensures ∙ c.if-is_aside.false) c.in-None.is (shuts w.other.op w.other.reply) w.other w.time (old.next - old.taken) rest more)
