use Rattle.expand_engine.proofs.ActsDone.{HasDone-more, HasDone-stops, HasDone-all}
use Rattle.expand_engine.proofs.acts.act_all.Goals as goal

pub returns-in-Err-clause-ok : goal.returns-in-Err-clause-ok
returns-in-Err-clause-ok g c = record {
  world = c.loop-one.world;
  went =
      let other = c.is_memory.ensures.no c.if-is_memory.false in
      HasDone-stops c.args.acts.now c.args.world.now c.loop-one.world c.loop-one.events.items c.act.new.events.items c.loop-one.one-index c.one-item.result c.in-Err.refusal c.loop-one.invariant
      c.loop-one-test.true c.one-item.is (c.in-Err.ensures.kept other) c.in-Err.ensures.kind other c.in-Err.ensures.refused;
  steps = c.steps-steps.ensures.value;
}

pub loop-one-preserved : goal.loop-one-preserved
loop-one-preserved g c =
    HasDone-more c.args.acts.now c.args.world.now c.loop-one.world c.act.new.world c.loop-one.events.items c.act.new.events.items c.loop-one.one-index c.one-item.result c.loop-one.invariant
    c.loop-one-test.true c.one-item.is c.in-Ok.ensures.ok c.in-Ok.ensures.steps

pub returns-clause-ok : goal.returns-clause-ok
returns-clause-ok g c = record {
  world = c.loop-one.world;
  went = HasDone-all c.args.acts.now c.args.world.now c.loop-one.world c.loop-one.events.items c.loop-one.one-index c.loop-one.invariant c.loop-one-test.false;
  steps = c.steps.ensures.value;
}

pub returns-clause-whole : goal.returns-clause-whole
returns-clause-whole g c = λ none.
    HasDone-all c.args.acts.now c.args.world.now c.loop-one.world c.loop-one.events.items c.loop-one.one-index c.loop-one.invariant c.loop-one-test.false
