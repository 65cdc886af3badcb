-- What was pushed before, and what was pushed of the rest.
use Rattle.std.proofs.Common.{arith}
use Rattle.msq_c.proofs.Batches.{pushed_more, pushed_all, pushed_until}
use Rattle.msq_c.proofs.seat_blocks.SeatBlock.push_all.Goals as goal

pub loop-pushed-preserved : goal.loop-pushed-preserved
loop-pushed-preserved c = pushed_more c.args.self.now c.loop-pushed.self c.push_some.new.self c.args.numbers.now c.loop-pushed.pushed c.in-Ok.count
    c.in-Ok.ensures.queue c.loop-pushed-test.true c.loop-pushed.invariant c.in-Ok.ensures.pushed

pub returns-in-Err-clause-told : goal.returns-in-Err-clause-told
returns-in-Err-clause-told c = pushed_until c.args.self.now c.loop-pushed.self c.push_some.new.self c.args.numbers.now c.args.turns c.loop-pushed.pushed c.in-Err.refusal
    c.loop-pushed-test.true c.loop-pushed.invariant c.in-Err.ensures.refused

pub returns-clause-told : goal.returns-clause-told
returns-clause-told c = pushed_all c.args.self.now c.loop-pushed.self c.args.numbers.now c.args.turns c.loop-pushed.pushed
    (omega (arith, c.loop-pushed-test.false)) c.loop-pushed.invariant
