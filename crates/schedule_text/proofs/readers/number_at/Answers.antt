use Rattle.std.proofs.Common.{refl}
use Rattle.std.proofs.lemmas.Result.{err_from_is_err_and}
use Rattle.schedule_text.specs.Texts.{number, number_due}
use Rattle.schedule_text.proofs.Refusing.{IsFront-read, refused_end, refused_number}
use Rattle.schedule_text.proofs.readers.number_at.Goals as goal

pub returns-in-Ok-clause-ok : goal.returns-in-Ok-clause-ok
returns-in-Ok-clause-ok c = λ v.
    let split = c.in_ok-line.ensures.ok in
    IsFront-read (number_due v c.args.bits c.args.field) (number c.args.field c.in-Ok.value) _ c.in_ok-line.line.now _ refl c.in-Ok.ensures.0 c.in-Ok.ensures.1 split.1

pub returns-in-Err-clause-err : goal.returns-in-Err-clause-err
returns-in-Err-clause-err c = λ v.
    let split = c.in_ok-line.ensures.ok in
    refused_number c.args.before v c.args.bits c.args.field _ c.in_ok-line.line.now c.in_ok-line.rest.now c.in-Err.cause split.0 split.1 c.in-Err.ensures

pub returns-in_err-line-clause-err : goal.returns-in_err-line-clause-err
returns-in_err-line-clause-err c =
    let p = err_from_is_err_and c.from_residual.result c.from_residual.ensures.1 in
    rw (p.1, p.2) (λ v. refused_end c.args.before (number_due v c.args.bits c.args.field) _ _ refl c.in_err-line.ensures.err)
