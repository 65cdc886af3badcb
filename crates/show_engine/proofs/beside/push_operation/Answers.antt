-- The operation that is found is the one at the place.
use Rattle.std.proofs.Common.{◌≡◌, ◌-◌, ◌∙◌, Some, ap, subst, sym, append-nil}
use Rattle.std.specs.Prelude.{slice_get}
use Rattle.std.proofs.lemmas.Option.{slice_get-get_or}
use Rattle.show_engine.proofs.RowsBeside.{operation_at-past, operation_at-there}
use Rattle.show_engine.proofs.beside.push_operation.Goals as goal

pub returns : goal.returns
returns c =
    let at = c.in-Some.ensures.lookup in
    let found : slice_get c.args.history.now (c.args.place - 1) ≡ Some c.in-Some.operation.now =
    subst (λ i. slice_get c.args.history.now i ≡ Some c.in-Some.operation.now) c.saturating_sub.ensures
    (slice_get-get_or c.args.history.now c.saturating_sub.result c.in-Some.operation.now at.3.0 ∙ ap Some (sym at.1)) in
    rw (operation_at-there c.args.history.now c.args.place c.in-Some.operation.now found) c.in_ok-push.ensures.items

pub returns-in_default : goal.returns-in_default
returns-in_default c =
    let none = operation_at-past c.args.history.now c.args.place c.saturating_sub.result c.saturating_sub.ensures c.in_default.ensures.lookup.3 in
    rw none (sym (append-nil c.args.into.now.items))
