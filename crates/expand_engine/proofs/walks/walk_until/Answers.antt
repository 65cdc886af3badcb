use Rattle.std.proofs.Common.{arith, subst}
use Rattle.expand_engine.specs.Walks.{ComesTo, IsStanding}
use Rattle.expand_engine.proofs.Walked.{ComesTo-now, IsOnWay-more, busy_at, idle_at, not_gone, nowhere_all, nowhere_idle}
use Rattle.expand_engine.proofs.walks.walk_until.Goals as goal

pub returns-then-is_same-clause-ok : goal.returns-then-is_same-clause-ok
returns-then-is_same-clause-ok g c =
    ComesTo-now c.args.world.now c.loop-count.world c.args.actor c.args.line c.loop-count.at c.loop-count.count c.loop-count.invariant (c.is_same.ensures.yes c.if-is_same.true)
    (omega (arith, c.loop-count-test.true))

pub returns-in_err-next-clause-refused : goal.returns-in_err-next-clause-refused
returns-in_err-next-clause-refused g c = absurd (not_gone c.loop-count.world c.walk.new.world c.args.actor c.walk.ensures.next c.in_err-next.ensures.err.1)

pub returns-in_default-2-clause-refused : goal.returns-in_default-2-clause-refused
returns-in_default-2-clause-refused g c =
    nowhere_idle c.args.world.now c.loop-count.world c.walk.new.world c.args.actor c.args.line c.loop-count.at c.loop-count.count
    (busy_at c.args.world.now c.args.actor c.in_ok-at.field-0 c.in-Some.at c.in_ok-at.ensures.ok c.in-Some.is) c.loop-count.invariant (c.is_same.ensures.no c.if-is_same.false) c.loop-count-test.true
    c.walk.ensures.next (idle_at c.walk.new.world c.args.actor c.in_ok-next.field-0 c.in_ok-next.ensures.ok c.in_default-2.is)

pub loop-count-preserved : goal.loop-count-preserved
loop-count-preserved g c =
    IsOnWay-more c.args.world.now c.loop-count.world c.walk.new.world c.args.actor c.args.line c.loop-count.at c.in-Some-2.next c.loop-count.count c.loop-count.invariant
    (c.is_same.ensures.no c.if-is_same.false) c.walk.ensures.next c.walk.ensures.steps (subst (λ line. IsStanding c.walk.new.world c.args.actor line) c.in-Some-2.is c.in_ok-next.ensures.ok)

pub returns-then-is_same-2-clause-ok : goal.returns-then-is_same-2-clause-ok
returns-then-is_same-2-clause-ok g c =
    subst (λ count. ComesTo c.args.world.now c.args.actor c.args.line count c.loop-count.world) (omega (arith, c.loop-count-test.false, c.loop-count.auto.count-end))
    (ComesTo-now c.args.world.now c.loop-count.world c.args.actor c.args.line c.loop-count.at c.loop-count.count c.loop-count.invariant
    (c.is_same-2.ensures.yes c.if-is_same-2.true) c.loop-count.auto.count-end)

pub returns-clause-refused : goal.returns-clause-refused
returns-clause-refused g c =
    nowhere_all c.args.world.now c.loop-count.world c.args.actor c.args.line c.loop-count.at c.loop-count.count
    (busy_at c.args.world.now c.args.actor c.in_ok-at.field-0 c.in-Some.at c.in_ok-at.ensures.ok c.in-Some.is) c.loop-count.invariant (c.is_same-2.ensures.no c.if-is_same-2.false)
    (omega (arith, c.loop-count-test.false, c.loop-count.auto.count-end))
