use Rattle.std.proofs.lemmas.Result.{err_from_is_err_and}
use Rattle.recording_text.proofs.Steps.{fault-count, fault-no_count}
use Rattle.recording_text.proofs.readers.first_lines.Goals as goal

pub returns-in_err-line-clause-err : goal.returns-in_err-line-clause-err
returns-in_err-line-clause-err c =
    let e = c.in_err-line.ensures.err in
    let p = err_from_is_err_and c.from_residual-in_err-line.result c.from_residual-in_err-line.ensures.1 in
    rw (p.1, p.2, e.0)
    (fault-no_count c.args.text.now c.in_ok-version.version.now c.in_ok-version.later.now c.in_ok-version.ensures.ok.1 c.in_default.ensures.ok e.1)

pub returns-in-Err-count_of-clause-err : goal.returns-in-Err-count_of-clause-err
returns-in-Err-count_of-clause-err c =
    fault-count c.args.text.now c.in_ok-version.version.now c.in_ok-version.later.now c.in_ok-line.line.now c.in_ok-line.rest.now c.in-Err-count_of.cause
    c.in_ok-version.ensures.ok.1 c.in_default.ensures.ok c.in_ok-line.ensures.ok.1 c.in_ok-line.ensures.ok.0 c.in-Err-count_of.ensures
