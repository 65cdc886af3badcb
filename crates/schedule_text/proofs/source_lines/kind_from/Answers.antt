use Rattle.std.proofs.Common.{refl}
use Rattle.std.proofs.lemmas.Result.{err_from_is_err_and}
use Rattle.schedule_text.specs.Texts.{queue, queue_due}
use Rattle.schedule_text.proofs.StreamedLines.{given_said, split_24, stopped_long, stopped_kind}
use Rattle.schedule_text.proofs.source_lines.kind_from.Goals as goal

pub returns-in_err-held-clause-err : goal.returns-in_err-held-clause-err
returns-in_err-held-clause-err g c =
    let p = err_from_is_err_and c.from_residual.result c.from_residual.ensures.1 in
    rw (p.1, p.2) (λ v. c.in_err-held.ensures.err (queue_due v) refl)

pub returns-in_default-clause-err : goal.returns-in_default-clause-err
returns-in_default-clause-err g c = λ v. stopped_long 1 _ _ _ c.in_ok-held.ensures.ok (queue_due v) split_24 refl c.in_default.ensures

pub returns-in-Ok-clause-ok : goal.returns-in-Ok-clause-ok
returns-in-Ok-clause-ok g c = λ v.
    given_said 1 _ _ _ c.in_ok-held.ensures.ok (queue_due v) split_24 refl (queue c.in-Ok.kind) c.in-Some.line.now c.in-Some.ensures.0 c.in-Some.ensures.1 tt
    c.in-Ok.ensures.0 c.in-Ok.ensures.1

pub returns-in-Err-clause-err : goal.returns-in-Err-clause-err
returns-in-Err-clause-err g c = λ v.
    stopped_kind 1 _ _ _ c.in_ok-held.ensures.ok v c.in-Some.line.now c.in-Err.cause c.in-Some.ensures.0 c.in-Some.ensures.1 c.in-Err.ensures
