-- The pushes of what goes, one after another.
use Rattle.std.proofs.Common.{◌≡◌, ◌∷◌, [], ◌++◌, Some, length, slice_get, take, refl, sym, ap, ◌∙◌}
use Rattle.std.proofs.lemmas.List.{append-nil}
use Rattle.std.proofs.lemmas.Option.{slice_get_read}
use Rattle.waiting_orders.specs.Listed.{taken_of, with_one}
use Rattle.waiting_orders.proofs.Listing.{taken_then}
use Rattle.waiting_orders.proofs.orders.with_taken.Goals.{in-Some+in_ok-push, in_default}
use Rattle.waiting_orders.proofs.orders.with_taken.Goals as goal

pub loop-went-preserved : goal.loop-went-preserved
loop-went-preserved c =
    let walk = c.args.walk.now in
    let at = c.loop-went.went-index in
    let went = c.went-item.result in
    let before = taken_of (take at walk) in
    let there : slice_get walk at ≡ Some went = slice_get_read walk (length walk) at went refl c.loop-went-test.true c.went-item.is in
    elim c.match-went.branch [
      | in-Some+in_ok-push w ↦
          ap (λ v. v.items) w.pushes-is ∙ w.in_ok-push.ensures.items ∙ ap (λ l. l ++ w.in-Some.push ∷ []) c.loop-went.invariant
          ∙ ap (λ p. before ++ with_one p []) (sym w.in-Some.is) ∙ sym (taken_then walk at went there)
      | in_default w ↦
          ap (λ v. v.items) w.pushes-is ∙ c.loop-went.invariant ∙ sym (append-nil before)
          ∙ ap (λ p. before ++ with_one p []) (sym w.in_default.is) ∙ sym (taken_then walk at went there)
    ]
