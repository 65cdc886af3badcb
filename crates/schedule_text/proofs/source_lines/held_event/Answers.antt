use Rattle.std.proofs.Common.{refl}
use Rattle.std.proofs.lemmas.Bool.{lt-ltb}
use Rattle.schedule_text.specs.Texts.{happens, events_left}
use Rattle.schedule_text.proofs.StreamedLines.{given_said, split_24, stopped_long, stopped_event}
use Rattle.schedule_text.proofs.source_lines.held_event.Goals as goal

pub returns-in_default-clause-err : goal.returns-in_default-clause-err
returns-in_default-clause-err g c = λ left some.
    stopped_long c.args.before _ _ _ c.in_ok-held.ensures.ok (events_left c.args.version left) split_24 (lt-ltb 0 left some) c.in_default.ensures

pub returns-in-Ok-clause-ok : goal.returns-in-Ok-clause-ok
returns-in-Ok-clause-ok g c = λ left.
    let one = given_said c.args.before _ _ _ c.in_ok-held.ensures.ok (events_left c.args.version 1) split_24 refl (happens c.in-Ok.event) c.in-Some.line.now c.in-Some.ensures.0
    c.in-Some.ensures.1 c.in-Ok.ensures.0.0 c.in-Ok.ensures.0.1 c.in-Ok.ensures.1 in
    record { may = one.may; range = one.range; given = one.given; quiet = one.quiet }

pub returns-in-Err-clause-err : goal.returns-in-Err-clause-err
returns-in-Err-clause-err g c = λ left some.
    stopped_event c.args.before _ _ _ c.in_ok-held.ensures.ok c.args.version left some c.in-Some.line.now c.in-Err.cause c.in-Some.ensures.0 c.in-Some.ensures.1
    c.in-Err.ensures
