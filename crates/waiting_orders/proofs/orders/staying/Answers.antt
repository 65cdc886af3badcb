-- Those that ended at the places that are left, by first numbers.
use Rattle.std.proofs.Common.{◌≡◌, ◌++◌, length, slice_get, take, sym, ap, ◌∙◌, subst, arith}
use Rattle.std.proofs.Math.Seq.{take-length}
use Rattle.std.specs.List.{filter}
use Rattle.std.specs.List.Sorted.{IsPermutation}
use Rattle.waiting_orders.specs.Lines.{picked, view_left}
use Rattle.waiting_orders.specs.Listed.{ended_at}
use Rattle.waiting_orders.proofs.Listing.{has_ended, staying_next}
use Rattle.waiting_orders.proofs.Stepping.{all_spelled}
use Rattle.waiting_orders.proofs.orders.staying.Goals as goal

pub loop-at-preserved : goal.loop-at-preserved
loop-at-preserved c =
    let pushes = c.args.pushes.now in
    let places = c.in_ok-places.places.items in
    let at = c.loop-at.at in
    c.in_ok-push_ended.ensures
    ∙ ap (λ l. l ++ ended_at pushes c.place_at.result) c.loop-at.invariant
    ∙ ap (λ p. filter has_ended (picked pushes (take at places)) ++ ended_at pushes p) (c.place_at.ensures ∙ ap (λ l. slice_get l at) c.deref.ensures.value)
    ∙ sym (staying_next pushes places at)

pub returns-clause-same : goal.returns-clause-same
returns-clause-same c =
    let pushes = c.args.pushes.now in
    let places = c.in_ok-places.places.items in
    let end : c.loop-at.at ≡ length places = omega (arith, c.loop-at-test.false, c.loop-at.auto.at-end, c.len-at-end.ensures) in
    subst (λ l. IsPermutation l c.in_ok-sorted.sorted.items)
    (c.loop-at.invariant ∙ ap (λ n. filter has_ended (picked pushes (take n places))) end
    ∙ ap (λ l. filter has_ended (picked pushes l)) (take-length places ∙ c.in_ok-places.ensures) ∙ ap (filter has_ended) (all_spelled pushes (view_left c.args.left.now)))
    c.in_ok-sorted.ensures.same
