-- What was popped before, and what was popped into the rest.
use Rattle.std.proofs.Common.{arith}
use Rattle.msq_c.specs.Blocks.{known_in}
use Rattle.msq_c.proofs.Batches.{popped_some, popped_more, popped_all, popped_to_empty, popped_until}
use Rattle.msq_c.proofs.seat_blocks.SeatBlock.pop_up_to.Goals as goal

pub loop-popped-preserved : goal.loop-popped-preserved
loop-popped-preserved c = popped_more c.args.self.now c.loop-popped.self c.pop_some.new.self c.args.values.now c.loop-popped.values c.pop_some.new.values c.loop-popped.popped c.in-Ok.count
    c.in-Ok.ensures.queue c.loop-popped.auto.values c.loop-popped.invariant
    (popped_some (known_in c.loop-popped.self) c.loop-popped.popped c.loop-popped.values c.pop_some.new.values (known_in c.pop_some.new.self)
    c.in-Ok.count (omega (arith, c.in-Ok.count-is)) c.in-Ok.ensures.popped)

pub returns-in-Ok-eq0-clause-told : goal.returns-in-Ok-eq0-clause-told
returns-in-Ok-eq0-clause-told c = popped_to_empty c.args.self.now c.loop-popped.self c.pop_some.new.self c.args.values.now c.loop-popped.values c.pop_some.new.values
    c.args.turns c.loop-popped.popped c.in-Ok-eq0.field-0
    c.loop-popped-test.true c.loop-popped.auto.values c.in-Ok-eq0.field-0-test c.loop-popped.invariant c.in-Ok-eq0.ensures.popped

pub returns-in-Err-clause-told : goal.returns-in-Err-clause-told
returns-in-Err-clause-told c = popped_until c.args.self.now c.loop-popped.self c.pop_some.new.self c.args.values.now c.loop-popped.values c.pop_some.new.values
    c.args.turns c.loop-popped.popped c.in-Err.refusal
    c.loop-popped-test.true c.loop-popped.auto.values c.loop-popped.invariant c.in-Err.ensures.refused

pub returns-clause-told : goal.returns-clause-told
returns-clause-told c = popped_all c.args.self.now c.loop-popped.self c.args.values.now c.loop-popped.values c.args.turns c.loop-popped.popped
    (omega (arith, c.loop-popped-test.false)) c.loop-popped.auto.values c.loop-popped.invariant
