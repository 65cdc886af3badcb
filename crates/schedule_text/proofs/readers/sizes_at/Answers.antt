use Rattle.std.proofs.Common.{◌+◌, ◌-◌, refl, arith}
use Rattle.std.proofs.lemmas.Result.{err_from_is_err_and}
use Rattle.schedule_text.specs.declared.fields.Field.TheVariants.{Nodes, Limit, Actors, Events}
use Rattle.schedule_text.specs.Schedules.{header_lines}
use Rattle.schedule_text.specs.Texts.{number, number_due}
use Rattle.schedule_text.proofs.Joining.{refused_next, Begins-front, Begins-none}
use Rattle.schedule_text.proofs.readers.sizes_at.Goals as goal

pub returns-in_err-nodes-clause-err : goal.returns-in_err-nodes-clause-err
returns-in_err-nodes-clause-err c =
    let p = err_from_is_err_and c.from_residual.result c.from_residual.ensures.1 in
    let v = c.args.version in
    rw (p.1, p.2) (rw c.header_lines-before.ensures.count at (c.in_err-nodes.ensures.err v))

pub returns-in_err-limit-clause-err : goal.returns-in_err-limit-clause-err
returns-in_err-limit-clause-err c =
    let p = err_from_is_err_and c.from_residual-in_err-limit.result c.from_residual-in_err-limit.ensures.1 in
    let v = c.args.version in
    let b = c.args.bits in
    let is = c.header_lines-before.ensures.count in
    let before = c.header_lines-before.result - 4 in
    rw (p.1, p.2)
    (refused_next (header_lines v - 4) (before + 1) (number_due v b Nodes) (number Nodes c.in_ok-nodes.nodes) _ _ _ (omega (arith, is)) refl (c.in_ok-nodes.ensures.ok v)
    (c.in_err-limit.ensures.err v))

pub returns-in_err-actors-clause-err : goal.returns-in_err-actors-clause-err
returns-in_err-actors-clause-err c =
    let p = err_from_is_err_and c.from_residual-in_err-actors.result c.from_residual-in_err-actors.ensures.1 in
    let v = c.args.version in
    let b = c.args.bits in
    let is = c.header_lines-before.ensures.count in
    let before = c.header_lines-before.result - 4 in
    rw (p.1, p.2)
    (refused_next (header_lines v - 4) (before + 1) (number_due v b Nodes) (number Nodes c.in_ok-nodes.nodes) _ _ _ (omega (arith, is)) refl (c.in_ok-nodes.ensures.ok v)
    (refused_next (before + 1) (before + 2) (number_due v b Limit) (number Limit c.in_ok-limit.limit) _ _ _ (omega arith) refl (c.in_ok-limit.ensures.ok v)
    (c.in_err-actors.ensures.err v)))

pub returns-in_err-events-clause-err : goal.returns-in_err-events-clause-err
returns-in_err-events-clause-err c =
    let p = err_from_is_err_and c.from_residual-in_err-events.result c.from_residual-in_err-events.ensures.1 in
    let v = c.args.version in
    let b = c.args.bits in
    let is = c.header_lines-before.ensures.count in
    let before = c.header_lines-before.result - 4 in
    rw (p.1, p.2)
    (refused_next (header_lines v - 4) (before + 1) (number_due v b Nodes) (number Nodes c.in_ok-nodes.nodes) _ _ _ (omega (arith, is)) refl (c.in_ok-nodes.ensures.ok v)
    (refused_next (before + 1) (before + 2) (number_due v b Limit) (number Limit c.in_ok-limit.limit) _ _ _ (omega arith) refl (c.in_ok-limit.ensures.ok v)
    (refused_next (before + 2) (before + 3) (number_due v b Actors) (number Actors c.in_ok-actors.actors) _ _ _ (omega arith) refl (c.in_ok-actors.ensures.ok v)
    (c.in_err-events.ensures.err v))))

pub returns-clause-text : goal.returns-clause-text
returns-clause-text c =
    let v = c.args.version in
    let b = c.args.bits in
    Begins-front (number_due v b Nodes) (number Nodes c.in_ok-nodes.nodes) _ _ _ _ refl (c.in_ok-nodes.ensures.ok v)
    (Begins-front (number_due v b Limit) (number Limit c.in_ok-limit.limit) _ _ _ _ refl (c.in_ok-limit.ensures.ok v)
    (Begins-front (number_due v b Actors) (number Actors c.in_ok-actors.actors) _ _ _ _ refl (c.in_ok-actors.ensures.ok v)
    (Begins-front (number_due v b Events) (number Events c.in_ok-events.events) _ _ _ _ refl (c.in_ok-events.ensures.ok v)
    (Begins-none _ _))))
