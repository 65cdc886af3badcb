use Rattle.std.proofs.Common.{refl}
use Rattle.std.proofs.lemmas.Result.{err_from_is_err_and}
use Rattle.schedule_text.specs.Texts.{version, version_due}
use Rattle.schedule_text.proofs.Refusing.{IsFront-read, refused_end, refused_version}
use Rattle.schedule_text.proofs.Spelling.{words_of-said}
use Rattle.schedule_text.proofs.readers.version_at.Goals as goal

pub returns-in_err-line-clause-err : goal.returns-in_err-line-clause-err
returns-in_err-line-clause-err c =
    let p = err_from_is_err_and c.from_residual.result c.from_residual.ensures.1 in
    rw (p.1, p.2) (refused_end 0 version_due _ _ refl c.in_err-line.ensures.err)

pub returns-in-Some-clause-ok : goal.returns-in-Some-clause-ok
returns-in-Some-clause-ok c =
    let split = c.in_ok-line.ensures.ok in
    IsFront-read version_due (version c.in-Some.version) _ c.in_ok-line.line.now _ tt
    (words_of-said (version c.in-Some.version) c.in_ok-line.line.now c.in-Some.ensures) tt split.1

pub returns-in-None-clause-err : goal.returns-in-None-clause-err
returns-in-None-clause-err c =
    let split = c.in_ok-line.ensures.ok in
    refused_version _ c.in_ok-line.line.now c.in_ok-line.rest.now split.0 split.1 c.in-None.ensures
