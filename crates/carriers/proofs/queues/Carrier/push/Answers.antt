use Rattle.std.proofs.Common.{◌≡◌, ◌∙◌, rules}
use Rattle.history.specs.declared.refusals.Refusal.TheVariants.{Busy}
use Rattle.carriers.proofs.Learning.{sees_then, pushes_then, push_refused_then}
use Rattle.carriers.proofs.queues.Carrier.push.Goals as goal

pub loop-preserved : goal.loop-preserved
loop-preserved g c =
    let busy : c.in-Err-Busy.field-0.refusal ≡ Busy = search rules in
    record {
      can = tt;
      finite = tt;
      seat = c.try_push.ensures.seat;
      more = sees_then _ _ _ c.loop.invariant.more (rw busy at c.in-Err-Busy.ensures.refused);
      value = c.in-Err-Busy.ensures.back ∙ c.loop.invariant.value;
    }

pub returns-in-Err-clause-refused : goal.returns-in-Err-clause-refused
returns-in-Err-clause-refused g c = push_refused_then _ _ _ c.in-Err.unpushed.refusal c.loop.invariant.more c.in-Err.ensures.refused

pub returns-in-Ok-clause-pushed : goal.returns-in-Ok-clause-pushed
returns-in-Ok-clause-pushed g c = pushes_then _ _ _ _ _ c.loop.invariant.value c.loop.invariant.more c.in-Ok.ensures.pushed
