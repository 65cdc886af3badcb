use Rattle.std.proofs.lemmas.Bool.{lt-ltb}
use Rattle.std.proofs.lemmas.Result.{err_from_is_err_and}
use Rattle.schedule_text.specs.Texts.{happens, events_left}
use Rattle.schedule_text.proofs.Refusing.{IsFront-read, refused_end, refused_event}
use Rattle.schedule_text.proofs.readers.push_event.Goals as goal

pub returns-in_ok-keep-in-Ok-clause-ok : goal.returns-in_ok-keep-in-Ok-clause-ok
returns-in_ok-keep-in-Ok-clause-ok c =
    let split = c.in_ok-line.ensures.ok in
    record {
      event = c.in-Ok.event;
      added = c.in_ok-keep-in-Ok.ensures.ok;
      front = λ left. IsFront-read (events_left c.args.version left) (happens c.in-Ok.event) _ c.in_ok-line.line.now _ c.in-Ok.ensures.0.0 c.in-Ok.ensures.0.1 c.in-Ok.ensures.1 split.1;
    }

pub returns-in-Err-clause-err : goal.returns-in-Err-clause-err
returns-in-Err-clause-err c = λ left some.
    let split = c.in_ok-line.ensures.ok in
    refused_event c.args.before c.args.version left _ c.in_ok-line.line.now c.in_ok-line.rest.now c.in-Err.cause some split.0 split.1 c.in-Err.ensures

pub returns-in_err-line-clause-err : goal.returns-in_err-line-clause-err
returns-in_err-line-clause-err c =
    let p = err_from_is_err_and c.from_residual.result c.from_residual.ensures.1 in
    rw (p.1, p.2) (λ left some. refused_end c.args.before (events_left c.args.version left) _ _ (lt-ltb 0 left some) c.in_err-line.ensures.err)
