use Rattle.std.proofs.lemmas.Result.{err_from_is_err_and}
use Rattle.run_engine.specs.TracesWritten.{the_trace}
use Rattle.run_engine.proofs.Traced.{trace_due}
use Rattle.expand_engine.proofs.AnsweredRecipes.{AnswersOf-ended, AnswersOf-telling}
use Rattle.expand_engine.proofs.tracing.trace_with_bits.Goals as goal

pub returns-in_err-write_trace : goal.returns-in_err-write_trace
returns-in_err-write_trace g c =
    let p = err_from_is_err_and c.from_residual.result c.from_residual.ensures.1 in
    let e = c.args.expansion.now in
    let a = g.W.Sink.state c.args.writer.now in
    let b = g.W.Sink.state c.write_trace.new.writer in
    let made = c.requires.made in
    let count = made.extent in
    let tells = c.in_err-write_trace.ensures count.world count.led count.steps in
    rw p.1 (AnswersOf-telling the_trace e e.extent count made.refusal made.fault _ (trace_due e.schedule e.extent count.world) a b _ c.in_err-write_trace.field-0.0 p.0 p.2 tells)

pub returns : goal.returns
returns g c =
    let e = c.args.expansion.now in
    let a = g.W.Sink.state c.args.writer.now in
    let b = g.W.Sink.state c.write_trace.new.writer in
    let made = c.requires.made in
    let count = made.extent in
    let tells = c.in_ok-write_trace.ensures count.world count.led count.steps in
    AnswersOf-ended the_trace e e.extent count made.refusal made.fault _ (trace_due e.schedule e.extent count.world) a b _ c.refuse.result c.refuse.ensures tells.ok tells.quiet
