-- What was set aside, one after another, by first numbers.
use Rattle.std.proofs.Common.{◌≡◌, ◌∷◌, [], ◌++◌, Some, cond, length, slice_get, take, refl, sym, ap, ◌∙◌}
use Rattle.std.proofs.lemmas.List.{append-nil}
use Rattle.std.proofs.lemmas.Option.{slice_get_read}
use Rattle.waiting_orders.specs.Listed.{asides_of}
use Rattle.waiting_orders.proofs.Listing.{asides_then}
use Rattle.waiting_orders.proofs.orders.asides.Goals.{then-is_aside+in_ok-push, else-is_aside}
use Rattle.waiting_orders.proofs.orders.asides.Goals as goal

pub loop-went-preserved : goal.loop-went-preserved
loop-went-preserved c =
    let walk = c.args.walk.now in
    let at = c.loop-went.went-index in
    let went = c.went-item.result in
    let before = asides_of (take at walk) in
    let there : slice_get walk at ≡ Some went = slice_get_read walk (length walk) at went refl c.loop-went-test.true c.went-item.is in
    elim c.if-is_aside.branch [
      | then-is_aside+in_ok-push w ↦
          ap (λ v. v.items) w.asides-is ∙ w.in_ok-push.ensures.items ∙ ap (λ l. l ++ went.other ∷ []) c.loop-went.invariant
          ∙ ap (λ b. before ++ cond b (went.other ∷ []) []) (sym w.if-is_aside.true ∙ c.is_aside.ensures) ∙ sym (asides_then walk at went there)
      | else-is_aside w ↦
          ap (λ v. v.items) w.asides-is ∙ c.loop-went.invariant ∙ sym (append-nil before)
          ∙ ap (λ b. before ++ cond b (went.other ∷ []) []) (sym w.if-is_aside.false ∙ c.is_aside.ensures) ∙ sym (asides_then walk at went there)
    ]
