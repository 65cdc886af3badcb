use Rattle.std.proofs.Common.{refl}
use Rattle.std.proofs.lemmas.Result.{err_from_is_err_and}
use Rattle.schedule_text.specs.Texts.{version, version_due}
use Rattle.schedule_text.proofs.Spelling.{words_of-said}
use Rattle.schedule_text.proofs.StreamedLines.{given_said, split_24, stopped_long, stopped_version}
use Rattle.schedule_text.proofs.source_lines.version_from.Goals as goal

pub returns-in_err-held-clause-err : goal.returns-in_err-held-clause-err
returns-in_err-held-clause-err g c =
    let p = err_from_is_err_and c.from_residual.result c.from_residual.ensures.1 in
    rw (p.1, p.2) (c.in_err-held.ensures.err version_due refl)

pub returns-in_default-clause-err : goal.returns-in_default-clause-err
returns-in_default-clause-err g c = stopped_long 0 _ _ _ c.in_ok-held.ensures.ok version_due split_24 refl c.in_default.ensures

pub returns-in-Some-version_of-clause-ok : goal.returns-in-Some-version_of-clause-ok
returns-in-Some-version_of-clause-ok g c =
    given_said 0 _ _ _ c.in_ok-held.ensures.ok version_due split_24 refl (version c.in-Some-version_of.version) c.in-Some.line.now c.in-Some.ensures.0 c.in-Some.ensures.1 tt
    (words_of-said (version c.in-Some-version_of.version) c.in-Some.line.now c.in-Some-version_of.ensures) tt

pub returns-in-None-clause-err : goal.returns-in-None-clause-err
returns-in-None-clause-err g c =
    stopped_version 0 _ _ _ c.in_ok-held.ensures.ok c.in-Some.line.now c.in-Some.ensures.0 c.in-Some.ensures.1 c.in-None.ensures
