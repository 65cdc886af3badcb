use Rattle.std.proofs.Common.{arith, refl, subst, sym}
use Rattle.std.proofs.lemmas.List.Elements.{All-get_or}
use Rattle.schedule_text.specs.Texts.{IsEventInRange}
use Rattle.run_engine.proofs.HasCounted.{HasCounted-all, HasCounted-more, HasCounted-none}
use Rattle.run_engine.proofs.TraceStops.{IsCount-all, IsCount-refused}
use Rattle.run_engine.proofs.counts.make_all.Goals as goal

pub loop-event-init : goal.loop-event-init
loop-event-init g c = record { counted = HasCounted-none c.args.world.now c.args.events.now c.requires.left; made = refl; within = omega arith }

pub make-requires : goal.make-requires
make-requires g c =
    let within = c.loop-event-test.true in
    let range = All-get_or IsEventInRange c.args.events.now c.loop-event.event-index c.event-item.result within c.requires.range in
    (omega arith, (subst IsEventInRange (sym c.event-item.is) range, omega (arith, within, c.requires.few, c.loop-event.invariant.counted.steps)))

pub loop-event-preserved : goal.loop-event-preserved
loop-event-preserved g c = record {
  counted = HasCounted-more c.args.world.now c.args.events.now c.loop-event.world c.make.new.world c.loop-event.event-index c.event-item.result
      c.loop-event.invariant.counted c.loop-event-test.true c.event-item.is c.in-Ok.ensures.ok c.in-Ok.ensures.steps;
  made = omega (arith, c.loop-event.invariant.made);
  within = omega (arith, c.loop-event-test.true);
}

pub returns-in-Err-clause-ok : goal.returns-in-Err-clause-ok
returns-in-Err-clause-ok g c =
    IsCount-refused c.args.world.now c.args.events.now c.loop-event.world c.loop-event.event-index c.loop-event.made c.steps-steps.result c.event-item.result c.in-Err.refusal
    c.loop-event.invariant.counted c.loop-event.invariant.made c.loop-event-test.true c.event-item.is c.steps-steps.ensures.value c.in-Err.ensures.kind c.in-Err.ensures.refused

pub returns-clause-ok : goal.returns-clause-ok
returns-clause-ok g c =
    IsCount-all c.args.world.now c.args.events.now c.loop-event.world c.loop-event.event-index c.loop-event.made _ c.loop-event.invariant.counted c.loop-event.invariant.made
    c.loop-event.invariant.within c.loop-event-test.false c.steps.ensures.value

pub returns-in-Err-clause-whole : goal.returns-in-Err-clause-whole
returns-in-Err-clause-whole g c = λ none. absurd cc

pub returns-clause-whole : goal.returns-clause-whole
returns-clause-whole g c = λ none.
    HasCounted-all c.args.world.now c.args.events.now c.loop-event.world c.loop-event.event-index c.loop-event.invariant.counted c.loop-event-test.false
