use Rattle.std.proofs.lemmas.Result.{err_from_is_err_and}
use Rattle.schedule_text.proofs.Joining.{Begins-event, refused_event_behind, length-added, All-added}
use Rattle.schedule_text.proofs.readers.events_of.Goals as goal

pub returns-in_err-rest-clause-err : goal.returns-in_err-rest-clause-err
returns-in_err-rest-clause-err c =
    let p = err_from_is_err_and c.from_residual.result c.from_residual.ensures.1 in
    let before = c.loop-place.invariant in
    rw (p.1, p.2) (rw c.header_lines.ensures.count at (refused_event_behind _ c.args.version c.args.count _ _ _ _ _ before.begins before.counted c.loop-place-test.true c.in_err-rest.ensures.err))

pub loop-place-preserved : goal.loop-place-preserved
loop-place-preserved c =
    let before = c.loop-place.invariant in
    let added = c.in_ok-rest.ensures.ok in
    record {
      begins = Begins-event c.args.version c.args.count _ _ _ _ _ _ before.begins before.counted c.loop-place-test.true added;
      counted = length-added c.args.version _ _ _ _ _ before.counted added;
      range = All-added c.args.version _ _ _ _ before.range added;
    }
