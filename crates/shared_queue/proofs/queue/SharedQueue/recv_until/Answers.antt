use Rattle.std.proofs.Common.{◌≡◌, rules}
use Rattle.history.specs.declared.refusals.Refusal.TheVariants.{Busy}
use Rattle.shared_queue.specs.Waits.{WaitedOf}
use Rattle.shared_queue.proofs.Waiting.{waits_not, waits_on, sees, finds, none_found, hears_on, late_now, was_busy, heard_none, heard_on, late_on}
use Rattle.shared_queue.proofs.queue.SharedQueue.recv_until.Goals as goal

pub loop-init : goal.loop-init
loop-init g c = record {
  can = tt;
  finite = tt;
  seat = c.requires.seat;
  waited = waits_not _;
  heard = heard_none _ _ c.new-waiting.ensures;
  before = tt;
  since = tt;
  comes = tt;
}

pub loop-preserved-then-not-looks : goal.loop-preserved-then-not-looks
loop-preserved-then-not-looks g c =
    let known = g.C.Carrier.known in
    record {
      can = tt;
      finite = tt;
      seat = c.loop.invariant.seat;
      waited = c.loop.invariant.waited;
      heard = hears_on (λ s. WaitedOf (known s) (known c.loop.seat)) _ _ c.loop.seat c.loop.invariant.heard (waits_not _) c.step_aside-late.ensures.heard;
      before = late_now (λ s. WaitedOf (known c.args.seat.now) (known s)) _ c.loop.seat c.loop.invariant.waited c.step_aside-late.ensures.late;
      since = late_now (λ s. WaitedOf (known s) (known c.loop.seat)) _ c.loop.seat (waits_not _) c.step_aside-late.ensures.late;
      comes = c.step_aside-late.ensures.comes;
    }

pub loop-preserved-in-Some-heard : goal.loop-preserved-in-Some-heard
loop-preserved-in-Some-heard g c =
    let found = finds _ _ (none_found _ _ _ c.in-Ok-None.field-0-is c.in-Ok-None.ensures.answer) in
    record {
      can = tt;
      finite = tt;
      seat = c.try_pop-answer.ensures.seat;
      waited = waits_on _ _ _ c.loop.invariant.waited found;
      heard = heard_on WaitedOf waits_on g.C.Carrier.known c.loop.waiting.heard _ _ found c.loop.invariant.heard;
      before = c.loop.invariant.before;
      since = late_on WaitedOf waits_on g.C.Carrier.known c.loop.late _ _ found c.loop.invariant.since;
      comes = c.loop.invariant.comes;
    }

pub loop-preserved-in_default-heard : goal.loop-preserved-in_default-heard
loop-preserved-in_default-heard g c =
    let found = finds _ _ (none_found _ _ _ c.in-Ok-None.field-0-is c.in-Ok-None.ensures.answer) in
    record {
      can = tt;
      finite = tt;
      seat = c.try_pop-answer.ensures.seat;
      waited = waits_on _ _ _ c.loop.invariant.waited found;
      heard = heard_on WaitedOf waits_on g.C.Carrier.known c.loop.waiting.heard _ _ found c.loop.invariant.heard;
      before = c.loop.invariant.before;
      since = late_on WaitedOf waits_on g.C.Carrier.known c.loop.late _ _ found c.loop.invariant.since;
      comes = c.loop.invariant.comes;
    }

pub loop-preserved-in-None-late : goal.loop-preserved-in-None-late
loop-preserved-in-None-late g c =
    let found = finds _ _ (none_found _ _ _ c.in-Ok-None.field-0-is c.in-Ok-None.ensures.answer) in
    record {
      can = tt;
      finite = tt;
      seat = c.try_pop-answer.ensures.seat;
      waited = waits_on _ _ _ c.loop.invariant.waited found;
      heard = heard_on WaitedOf waits_on g.C.Carrier.known c.loop.waiting.heard _ _ found c.loop.invariant.heard;
      before = tt;
      since = tt;
      comes = tt;
    }

pub loop-preserved-in_default : goal.loop-preserved-in_default
loop-preserved-in_default g c =
    let found = finds _ _ (none_found _ _ _ c.in-Ok-None.field-0-is c.in-Ok-None.ensures.answer) in
    record {
      can = tt;
      finite = tt;
      seat = c.try_pop-answer.ensures.seat;
      waited = waits_on _ _ _ c.loop.invariant.waited found;
      heard = heard_on WaitedOf waits_on g.C.Carrier.known c.loop.waiting.heard _ _ found c.loop.invariant.heard;
      before = c.loop.invariant.before;
      since = late_on WaitedOf waits_on g.C.Carrier.known c.loop.late _ _ found c.loop.invariant.since;
      comes = c.loop.invariant.comes;
    }

pub loop-preserved : goal.loop-preserved
loop-preserved g c =
    let is_busy : c.in-Err-Busy.field-0 ≡ Busy = search rules in
    let busy = sees _ _ (was_busy _ _ _ c.in-Err-Busy.field-0 c.in-Err-Busy.is is_busy c.try_pop-answer.ensures.refused) in
    record {
      can = tt;
      finite = tt;
      seat = c.try_pop-answer.ensures.seat;
      waited = waits_on _ _ _ c.loop.invariant.waited busy;
      heard = heard_on WaitedOf waits_on g.C.Carrier.known c.loop.waiting.heard _ _ busy c.loop.invariant.heard;
      before = c.loop.invariant.before;
      since = late_on WaitedOf waits_on g.C.Carrier.known c.loop.late _ _ busy c.loop.invariant.since;
      comes = c.loop.invariant.comes;
    }
