use Rattle.std.proofs.Common.{◌≡◌, arith}
use Rattle.std.proofs.lemmas.Result.{err_from_is_err_and}
use Rattle.schedule_text.proofs.source_lines.due_from.Goals as goal

pub returns-in_err-event-clause-err : goal.returns-in_err-event-clause-err
returns-in_err-event-clause-err g c =
    let p = err_from_is_err_and c.from_residual-in_err-event.result c.from_residual-in_err-event.ensures.1 in
    rw (p.1, p.2) (c.in_err-event.ensures.err c.args.left (omega arith))

pub returns-clause-ok : goal.returns-clause-ok
returns-clause-ok g c = (omega arith, c.in_ok-event.ensures.ok c.args.left)

pub returns-in_err-end_from-clause-err : goal.returns-in_err-end_from-clause-err
returns-in_err-end_from-clause-err g c =
    let p = err_from_is_err_and c.from_residual.result c.from_residual.ensures.1 in
    let none : c.args.left ≡ 0 = omega arith in
    rw (p.1, p.2) (rw none (c.in_err-end_from.ensures.err c.args.version))
