-- Each operation goes to one of the two lists.
use Rattle.std.proofs.Common.{◌≡◌, Some, not, true, false, length, slice_get, refl, sym, ap, ◌∙◌}
use Rattle.std.proofs.lemmas.Option.{slice_get_read}
use Rattle.waiting_orders.specs.Waiting.{waits}
use Rattle.waiting_orders.proofs.ByFirst.{gathers, passes_by}
use Rattle.waiting_orders.proofs.boards.Calls.of.Goals.{then-waits+in_ok-push, else-waits+in_ok-push-2}
use Rattle.waiting_orders.proofs.boards.Calls.of.Goals as goal

pub loop-index-preserved : goal.loop-index-preserved
loop-index-preserved c =
    let ops = c.args.history.now in
    let at = c.loop-index.index in
    let o = c.index-history-index.result in
    let there : slice_get ops at ≡ Some o = slice_get_read ops (length ops) at o refl c.loop-index-test.true c.index-history-index.is in
    elim c.if-waits.branch [
      | then-waits+in_ok-push w ↦
          let e : waits (record o { at = Some at }) ≡ true = sym c.waits.ensures ∙ w.if-waits.true in (
            passes_by (λ o. not (waits o)) ops at o there (ap not e) c.loop-index.others.items c.if-waits.others.items c.loop-index.invariant.0 (ap (λ v. v.items) w.others-is),
            gathers waits ops at o there e c.loop-index.pushes.items c.if-waits.pushes.items c.loop-index.invariant.1 (ap (λ v. v.items) w.pushes-is ∙ w.in_ok-push.ensures.items),
          )
      | else-waits+in_ok-push-2 w ↦
          let e : waits (record o { at = Some at }) ≡ false = sym c.waits.ensures ∙ w.if-waits.false in (
            gathers (λ o. not (waits o)) ops at o there (ap not e) c.loop-index.others.items c.if-waits.others.items c.loop-index.invariant.0 (ap (λ v. v.items) w.others-is ∙ w.in_ok-push-2.ensures.items),
            passes_by waits ops at o there e c.loop-index.pushes.items c.if-waits.pushes.items c.loop-index.invariant.1 (ap (λ v. v.items) w.pushes-is),
          )
    ]
