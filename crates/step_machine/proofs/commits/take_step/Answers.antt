-- A step puts its outcome down where its actor and its operation stand.
use Rattle.std.proofs.Common.{◌≡◌, ◌<◌, Some, length, get_or, slice_get, slice_set, sym, subst, ap, ◌∙◌}
use Rattle.step_machine.specs.Below.{Actor, Stamped}
use Rattle.step_machine.specs.Machine.{new_operation, entry_or}
use Rattle.step_machine.specs.Views.{listed, reply_in, TookStep}
use Rattle.step_machine.proofs.Stepping.{took, written_there}
use Rattle.step_machine.proofs.commits.take_step.Goals as goal

pub returns-clause-took : goal.returns-clause-took
returns-clause-took g c =
    let a = c.args.a.now in
    let step = c.stepped in
    let at = c.list_operation-place.ensures in
    let place = c.list_operation-place.result in
    let ops = c.args.operations.now.items in
    let items = at.items ∙ ap (λ (x : Actor). listed x.entry (new_operation c.args.me x.op c.args.now) ops) c.a.view_is in
    let place_is = at.place ∙ ap (λ (x : Actor). entry_or x.entry (length ops)) c.a.view_is in
    let told = slice_set c.list_operation-place.new.operations.items place step.new.operation in
    subst (λ (x : Actor). TookStep c.args.setup c.args.now c.args.me c.args.line c.args.memory.now ops c.args.a.now step.new.memory told
    (record x { entry = Some place }) (reply_in (slice_get told place)))
    (sym c.a-2.view_is)
    (subst (λ os. TookStep c.args.setup c.args.now c.args.me c.args.line c.args.memory.now ops a step.new.memory
    (slice_set os place step.new.operation) (record step.new.a { entry = Some place })
    (reply_in (slice_get (slice_set os place step.new.operation) place)))
    (sym items)
    (took c.args.setup c.args.now c.args.me c.args.line c.args.memory.now a ops step.new.memory step.new.a c.in-Some.operation.now step.new.operation place _
    step.ensures.actor step.ensures.operation
    (ap reply_in (written_there _ place step.new.operation (subst (λ os. place < length os) items at.there)) ∙ ap (λ (s : Stamped). s.reply) step.ensures.operation)
    step.ensures.memory place_is
    (subst (λ os. place < length os) items at.there)
    (subst (λ os. c.in-Some.operation.now ≡ get_or os place c.in-Some.operation.now) items c.in-Some.ensures.value)))
