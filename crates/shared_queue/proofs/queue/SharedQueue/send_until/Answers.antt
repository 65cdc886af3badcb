use Rattle.std.proofs.Common.{◌∙◌, rules, subst, sym}
use Rattle.carriers.specs.Answers.{SeesMoreOf}
use Rattle.carriers.proofs.Learning.{sees_itself, sees_then, push_refused_then}
use Rattle.shared_queue.specs.Lates.{seat_then}
use Rattle.shared_queue.specs.Queues.{queue_of}
use Rattle.shared_queue.proofs.Waiting.{refused_by, busy_by, no_node, hears_on, heard_on, late_now, late_on, some_is}
use Rattle.shared_queue.proofs.queue.SharedQueue.send_until.Goals as goal

pub loop-preserved-then-not-looks : goal.loop-preserved-then-not-looks
loop-preserved-then-not-looks g c =
    let known = g.C.Carrier.known in
    record {
      can = tt;
      finite = tt;
      seat = c.loop.invariant.seat;
      more = c.loop.invariant.more;
      value = c.loop.invariant.value;
      heard = hears_on (λ s. SeesMoreOf (known s) (known c.loop.seat)) _ _ c.loop.seat c.loop.invariant.heard (sees_itself _) c.step_aside-late.ensures.heard;
      before = late_now (λ s. SeesMoreOf (known c.args.seat.now) (known s)) _ c.loop.seat c.loop.invariant.more c.step_aside-late.ensures.late;
      since = late_now (λ s. SeesMoreOf (known s) (known c.loop.seat)) _ c.loop.seat (sees_itself _) c.step_aside-late.ensures.late;
      comes = c.step_aside-late.ensures.comes;
    }

pub returns-in-Err-clause-caused : goal.returns-in-Err-clause-caused
returns-in-Err-clause-caused g c =
    let e = c.in-Err.ensures.caused in
    record { last = e.last; seat = e.seat; more = sees_then _ _ _ c.loop.invariant.more e.more; caused = e.caused }

pub sleep_full-requires-clause-looked : goal.sleep_full-requires-clause-looked
sleep_full-requires-clause-looked g c κs within =
    let known = g.C.Carrier.known in
    let last = c.look_for_shut.new.seat in
    record {
      last = last;
      seat = c.in-Ok.ensures.seat;
      more = subst (λ s. SeesMoreOf (known s) (known last)) (sym c.in-Ok.ensures.now) (sees_itself (known last));
      caused = no_node g.C.Carrier.push_cause (queue_of c.args.self.now) _ _ c.in-Err-try_push.unpushed.refusal c.in-NoNode.is c.in-Err-try_push.ensures.caused;
    }

pub loop-preserved-in-Some-heard : goal.loop-preserved-in-Some-heard
loop-preserved-in-Some-heard g c =
    let more = sees_then _ _ _ c.in-Ok.ensures.more (refused_by _ _ c.in-Err-try_push.unpushed.refusal c.in-NoNode.is c.in-Err-try_push.ensures.refused) in
    record {
      can = tt;
      finite = tt;
      seat = c.try_push.ensures.seat;
      more = sees_then _ _ _ c.loop.invariant.more more;
      value = c.in-Err-try_push.ensures.back ∙ c.loop.invariant.value;
      heard = heard_on SeesMoreOf sees_then g.C.Carrier.known c.loop.waiting.heard _ _ more c.loop.invariant.heard;
      before = c.loop.invariant.before;
      since = late_on SeesMoreOf sees_then g.C.Carrier.known c.loop.late _ _ more c.loop.invariant.since;
      comes = c.loop.invariant.comes;
    }

pub loop-preserved-in-None-waiting-3 : goal.loop-preserved-in-None-waiting-3
loop-preserved-in-None-waiting-3 g c =
    let more = sees_then _ _ _ c.in-Ok.ensures.more (refused_by _ _ c.in-Err-try_push.unpushed.refusal c.in-NoNode.is c.in-Err-try_push.ensures.refused) in
    record {
      can = tt;
      finite = tt;
      seat = c.try_push.ensures.seat;
      more = sees_then _ _ _ c.loop.invariant.more more;
      value = c.in-Err-try_push.ensures.back ∙ c.loop.invariant.value;
      heard = heard_on SeesMoreOf sees_then g.C.Carrier.known c.loop.waiting.heard _ _ more c.loop.invariant.heard;
      before = c.loop.invariant.before;
      since = late_on SeesMoreOf sees_then g.C.Carrier.known c.loop.late _ _ more c.loop.invariant.since;
      comes = c.loop.invariant.comes;
    }

pub returns-in-Some-late-clause-answer : goal.returns-in-Some-late-clause-answer
returns-in-Some-late-clause-answer g c =
    let known = g.C.Carrier.known in
    let late = c.in-Some-late.late in
    let before = some_is (λ l. SeesMoreOf (known c.args.seat.now) (known (seat_then l))) c.loop.late late c.in-Some-late.is c.loop.invariant.before in
    let since = some_is (λ l. SeesMoreOf (known (seat_then l)) (known c.loop.seat)) c.loop.late late c.in-Some-late.is c.loop.invariant.since in
    let looked = sees_then _ _ _ since c.in-Ok.ensures.more in
    let more = sees_then _ _ _ looked (refused_by _ _ c.in-Err-try_push.unpushed.refusal c.in-NoNode.is c.in-Err-try_push.ensures.refused) in
    let caused = no_node g.C.Carrier.push_cause (queue_of c.args.self.now) _ _ c.in-Err-try_push.unpushed.refusal c.in-NoNode.is c.in-Err-try_push.ensures.caused in (
      c.in-Err-try_push.ensures.back ∙ c.loop.invariant.value,
      before,
      more,
      record { last = c.look_for_shut.new.seat; seat = c.in-Ok.ensures.seat; more = looked; caused = caused },
    )

pub loop-preserved-in-Tell-1 : goal.loop-preserved-in-Tell-1
loop-preserved-in-Tell-1 g c =
    let more = sees_then _ _ _ c.in-Ok.ensures.more (refused_by _ _ c.in-Err-try_push.unpushed.refusal c.in-NoNode.is c.in-Err-try_push.ensures.refused) in
    record {
      can = tt;
      finite = tt;
      seat = c.try_push.ensures.seat;
      more = sees_then _ _ _ c.loop.invariant.more more;
      value = c.in-Err-try_push.ensures.back ∙ c.loop.invariant.value;
      heard = heard_on SeesMoreOf sees_then g.C.Carrier.known c.loop.waiting.heard _ _ more c.loop.invariant.heard;
      before = tt;
      since = tt;
      comes = tt;
    }

pub loop-preserved-in-GoOn-1 : goal.loop-preserved-in-GoOn-1
loop-preserved-in-GoOn-1 g c =
    let more = sees_then _ _ _ c.in-Ok.ensures.more (refused_by _ _ c.in-Err-try_push.unpushed.refusal c.in-NoNode.is c.in-Err-try_push.ensures.refused) in
    record {
      can = tt;
      finite = tt;
      seat = c.try_push.ensures.seat;
      more = sees_then _ _ _ c.loop.invariant.more more;
      value = c.in-Err-try_push.ensures.back ∙ c.loop.invariant.value;
      heard = heard_on SeesMoreOf sees_then g.C.Carrier.known c.loop.waiting.heard _ _ more c.loop.invariant.heard;
      before = c.loop.invariant.before;
      since = late_on SeesMoreOf sees_then g.C.Carrier.known c.loop.late _ _ more c.loop.invariant.since;
      comes = c.loop.invariant.comes;
    }

pub loop-preserved : goal.loop-preserved
loop-preserved g c =
    let more = sees_then _ _ _ c.in-Ok.ensures.more (busy_by _ _ c.in-Err-try_push.unpushed.refusal c.in-Busy.is c.in-Err-try_push.ensures.refused) in
    record {
      can = tt;
      finite = tt;
      seat = c.try_push.ensures.seat;
      more = sees_then _ _ _ c.loop.invariant.more more;
      value = c.in-Err-try_push.ensures.back ∙ c.loop.invariant.value;
      heard = heard_on SeesMoreOf sees_then g.C.Carrier.known c.loop.waiting.heard _ _ more c.loop.invariant.heard;
      before = c.loop.invariant.before;
      since = late_on SeesMoreOf sees_then g.C.Carrier.known c.loop.late _ _ more c.loop.invariant.since;
      comes = c.loop.invariant.comes;
    }

pub returns-in_default : goal.returns-in_default
returns-in_default g c =
    let seen = sees_then _ _ _ c.loop.invariant.more c.in-Ok.ensures.more in
    record {
      seat = c.try_push.ensures.seat;
      number = c.in-Err-try_push.ensures.number ∙ c.in-Ok.ensures.number ∙ c.loop.invariant.more.number;
      answer = tt;
      comes = tt;
      back = c.in-Err-try_push.ensures.back ∙ c.loop.invariant.value;
      refused = push_refused_then _ _ _ c.in-Err-try_push.unpushed.refusal seen c.in-Err-try_push.ensures.refused;
      refusal = search rules;
      caused = record { last = c.look_for_shut.new.seat; seat = c.in-Ok.ensures.seat; more = seen; caused = c.in-Err-try_push.ensures.caused };
    }
