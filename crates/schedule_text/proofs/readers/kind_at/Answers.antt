use Rattle.std.proofs.Common.{refl}
use Rattle.std.proofs.lemmas.Result.{err_from_is_err_and}
use Rattle.schedule_text.specs.Texts.{queue, queue_due}
use Rattle.schedule_text.proofs.Refusing.{IsFront-read, refused_end, refused_kind}
use Rattle.schedule_text.proofs.readers.kind_at.Goals as goal

pub returns-in-Ok-clause-ok : goal.returns-in-Ok-clause-ok
returns-in-Ok-clause-ok c = λ v.
    let split = c.in_ok-line.ensures.ok in
    IsFront-read (queue_due v) (queue c.in-Ok.kind) _ c.in_ok-line.line.now _ tt c.in-Ok.ensures.0 c.in-Ok.ensures.1 split.1

pub returns-in-Err-clause-err : goal.returns-in-Err-clause-err
returns-in-Err-clause-err c = λ v.
    let split = c.in_ok-line.ensures.ok in
    refused_kind v _ c.in_ok-line.line.now c.in_ok-line.rest.now c.in-Err.cause split.0 split.1 c.in-Err.ensures

pub returns-in_err-line-clause-err : goal.returns-in_err-line-clause-err
returns-in_err-line-clause-err c =
    let p = err_from_is_err_and c.from_residual.result c.from_residual.ensures.1 in
    rw (p.1, p.2) (λ v. refused_end 1 (queue_due v) _ _ refl c.in_err-line.ensures.err)
