use Rattle.std.proofs.Common.{arith}
use Rattle.expand_engine.proofs.Walked.{EndsCall-here, IsWalking-more, busy_told, idle_told, stays}
use Rattle.expand_engine.proofs.walks.walk_to_end.Goals as goal

pub returns-then-is_none-2-clause-ok : goal.returns-then-is_none-2-clause-ok
returns-then-is_none-2-clause-ok g c =
    EndsCall-here c.args.world.now c.loop-count.world c.walk.new.world c.args.actor c.loop-count.count c.loop-count.invariant c.loop-count-test.true c.walk.ensures.next
    (idle_told c.walk.new.world c.args.actor c.in_ok-standing-2.field-0 c.in_ok-standing-2.ensures.ok c.if-is_none-2.ensures)

pub loop-count-preserved : goal.loop-count-preserved
loop-count-preserved g c =
    IsWalking-more c.args.world.now c.loop-count.world c.walk.new.world c.args.actor c.loop-count.count c.loop-count.invariant c.walk.ensures.next c.walk.ensures.steps
    (busy_told c.walk.new.world c.args.actor c.in_ok-standing-2.field-0 c.in_ok-standing-2.ensures.ok c.if-is_none-2.ensures)

pub returns-clause-refused : goal.returns-clause-refused
returns-clause-refused g c =
    stays c.args.world.now c.loop-count.world c.args.actor c.loop-count.count c.loop-count.invariant (omega (arith, c.loop-count-test.false, c.loop-count.auto.count-end))
