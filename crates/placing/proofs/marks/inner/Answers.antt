use Rattle.std.proofs.Common.{◌≡◌, ◌∙◌, take_all, subst, ap}
use Rattle.placing.specs.Parts.{part_of}
use Rattle.placing.proofs.Marking.{takes_in, leaves_out}
use Rattle.placing.proofs.marks.inner.Goals as goal
use Rattle.placing.proofs.marks.inner.Goals.{then-call+in_ok-push, else-call}

pub loop-call-preserved : goal.loop-call-preserved
loop-call-preserved c =
    let calls = c.args.calls.now in
    let i = c.loop-call.call-index in
    elim c.if-call.branch [
      | then-call+in_ok-push w ↦ takes_in calls i c.call-item.result c.loop-call.part.items c.if-call.part.items c.loop-call-test.true
          c.call-item.is w.if-call.true c.loop-call.invariant (ap (λ part. part.items) w.part-is ∙ w.in_ok-push.ensures.items)
      | else-call w ↦ ap (λ part. part.items) w.part-is
          ∙ leaves_out calls i c.call-item.result c.loop-call.part.items c.loop-call-test.true c.call-item.is w.if-call.false c.loop-call.invariant
    ]

pub returns : goal.returns
returns c =
    subst (λ calls. c.loop-call.part.items ≡ part_of calls) (take_all c.loop-call.call-index c.args.calls.now c.loop-call-test.false) c.loop-call.invariant
