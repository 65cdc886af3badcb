use Rattle.std.proofs.lemmas.Result.{err_from_is_err_and}
use Rattle.place_engine.proofs.Records.{refused-recording}
use Rattle.place_engine.proofs.recorded_texts.recording_of.Goals as goal

pub returns-in_err-history-clause-err : goal.returns-in_err-history-clause-err
returns-in_err-history-clause-err c =
    let p = err_from_is_err_and c.from_residual.result c.from_residual.ensures.1 in
    rw (p.1, p.2) (refused-recording c.args.text.now c.in_err-history.field-0.0 c.requires c.in_err-history.ensures.err)
