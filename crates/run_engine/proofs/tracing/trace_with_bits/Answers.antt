use Rattle.std.proofs.Common.{refl}
use Rattle.std.proofs.lemmas.Result.{err_from_is_err_and}
use Rattle.run_engine.specs.TracesWritten.{the_trace}
use Rattle.run_engine.proofs.Answered.{Answers-counted, Answers-telling, Answers-unmade}
use Rattle.run_engine.proofs.Traced.{trace_due}
use Rattle.run_engine.proofs.tracing.trace_with_bits.Goals as goal

pub returns-in_err-counted : goal.returns-in_err-counted
returns-in_err-counted g c =
    let p = err_from_is_err_and c.from_residual.result c.from_residual.ensures.1 in
    rw p.1 (Answers-unmade the_trace _ (g.W.Sink.state c.args.writer.now) _ c.in_err-counted.field-0.0 p.0 p.2 c.in_err-counted.ensures.err refl)

pub returns-in_err-write_trace : goal.returns-in_err-write_trace
returns-in_err-write_trace g c =
    let p = err_from_is_err_and c.from_residual-in_err-write_trace.result c.from_residual-in_err-write_trace.ensures.1 in
    let s = c.args.schedule.now in
    let a = g.W.Sink.state c.args.writer.now in
    let b = g.W.Sink.state c.write_trace.new.writer in
    let counted = c.in_ok-counted.counted in
    let count = c.in_ok-counted.ensures.ok in
    let tells = c.in_err-write_trace.ensures count.world count.led count.steps in
    rw p.1 (Answers-telling the_trace s counted count _ (trace_due s counted count.world) a b _ c.in_err-write_trace.field-0.0 p.0 p.2 tells)

pub returns : goal.returns
returns g c =
    let s = c.args.schedule.now in
    let a = g.W.Sink.state c.args.writer.now in
    let b = g.W.Sink.state c.write_trace.new.writer in
    let counted = c.in_ok-counted.counted in
    let count = c.in_ok-counted.ensures.ok in
    let tells = c.in_ok-write_trace.ensures count.world count.led count.steps in
    Answers-counted the_trace s counted count _ (trace_due s counted count.world) a b _ c.refuse_at.result c.refuse_at.ensures tells.ok tells.quiet
