use Rattle.std.proofs.Common.{refl}
use Rattle.std.proofs.lemmas.Result.{err_from_is_err_and}
use Rattle.schedule_text.specs.Texts.{number, number_due}
use Rattle.schedule_text.proofs.StreamedLines.{given_said, stopped_long, stopped_number}
use Rattle.schedule_text.proofs.source_lines.number_from.Goals as goal

pub returns-in_err-held-clause-err : goal.returns-in_err-held-clause-err
returns-in_err-held-clause-err g c =
    let p = err_from_is_err_and c.from_residual.result c.from_residual.ensures.1 in
    rw (p.1, p.2) (λ v. c.in_err-held.ensures.err (number_due v c.args.bits c.args.field) refl)

pub returns-in_default-clause-err : goal.returns-in_default-clause-err
returns-in_default-clause-err g c = λ v.
    stopped_long c.args.before _ _ _ c.in_ok-held.ensures.ok (number_due v c.args.bits c.args.field) c.requires.split refl c.in_default.ensures

pub returns-in-Ok-clause-ok : goal.returns-in-Ok-clause-ok
returns-in-Ok-clause-ok g c = λ v.
    given_said c.args.before _ _ _ c.in_ok-held.ensures.ok (number_due v c.args.bits c.args.field) c.requires.split refl (number c.args.field c.in-Ok.value) c.in-Some.line.now
    c.in-Some.ensures.0 c.in-Some.ensures.1 refl c.in-Ok.ensures.0 c.in-Ok.ensures.1

pub returns-in-Err-clause-err : goal.returns-in-Err-clause-err
returns-in-Err-clause-err g c = λ v.
    stopped_number c.args.before _ _ _ c.in_ok-held.ensures.ok v c.args.bits c.requires.split c.args.field c.in-Some.line.now c.in-Err.cause c.in-Some.ensures.0 c.in-Some.ensures.1
    c.in-Err.ensures
