use Rattle.std.proofs.Common.{arith, ap, length, length-append}
use Rattle.schedule_text.proofs.WholeLines.{said_ahead, stopped_ahead}
use Rattle.schedule_text.proofs.source_lines.event_from.Goals as goal

pub skip-requires : goal.skip-requires
skip-requires g c = omega (arith, simp length-append at (ap length c.in-Some.ensures.line.1))

pub returns-in-Ok-clause-ok : goal.returns-in-Ok-clause-ok
returns-in-Ok-clause-ok g c = λ left.
    said_ahead c.args.version left c.in-Ok.event c.in-Some.line.now _ c.args.ahead.now c.skip.new.self _ c.in-Some.ensures.line.1 c.skip.ensures c.in-Ok.ensures.0
    c.in-Ok.ensures.1

pub returns-in-Err-clause-err : goal.returns-in-Err-clause-err
returns-in-Err-clause-err g c = λ left some.
    stopped_ahead c.args.before c.args.version left c.in-Some.line.now _ c.args.ahead.now c.skip.new.self (g.R.Source.state c.args.reader.now)
    c.in-Err.cause c.in-Some.ensures.line.0 c.in-Some.ensures.line.1 some
    c.in-Err.ensures
