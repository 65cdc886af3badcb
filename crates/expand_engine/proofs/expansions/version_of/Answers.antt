use Rattle.std.proofs.Common.{arith}
use Rattle.schedule_text.specs.Texts.{IsTold}
use Rattle.schedule_text.specs.declared.schedules.Version.TheVariants.{One}
use Rattle.expand_engine.proofs.ActsDone.{All-more, All-whole}
use Rattle.expand_engine.proofs.expansions.version_of.Goals as goal

pub loop-event-preserved : goal.loop-event-preserved
loop-event-preserved c =
    All-more (IsTold One) c.args.events.now c.loop-event.event-index c.event-item.result c.loop-event.invariant c.loop-event-test.true c.event-item.is
    (c.is_in_one.ensures.yes c.if-not-is_in_one.false)

pub returns : goal.returns
returns c = record {
  usual = omega (arith, c.if-bits-ne24.false);
  told = All-whole (IsTold One) c.args.events.now c.loop-event.event-index c.loop-event.invariant c.loop-event-test.false;
}
