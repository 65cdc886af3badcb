-- What is told changes the operation where it stands.
use Rattle.std.proofs.Common.{◌≡◌, ◌∙◌, ◌<◌, length, get_or, slice_set, ap, subst}
use Rattle.step_machine.specs.Below.{with_told}
use Rattle.step_machine.specs.Machine.{new_operation}
use Rattle.step_machine.specs.Views.{listed}
use Rattle.step_machine.proofs.Stepping.{changed_where_listed}
use Rattle.step_machine.proofs.commits.commit.Goals as goal

pub returns-clause-operations : goal.returns-clause-operations
returns-clause-operations g c =
    let call = c.args.call in
    let at = c.list_operation-place.ensures in
    let place = c.list_operation-place.result in
    let was = c.in-Some.operation.now in
    let new = new_operation call.actor call.op c.args.now in
    let those = listed call.entry new c.args.operations.now.items in
    ap (λ ops. slice_set ops place c.put_down.new.operation) at.items ∙
    ap (λ s. slice_set those place s) c.put_down.ensures.operation ∙
    changed_where_listed call.entry place new was (with_told c.args.now c.args.told) c.args.operations.now.items at.place
    (subst (λ ops. place < length ops) at.items at.there)
    (subst (λ ops. was ≡ get_or ops place was) at.items c.in-Some.ensures.value)
