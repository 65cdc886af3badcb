use Rattle.std.proofs.Common.{[]}
use Rattle.std.proofs.lemmas.Result.{err_from_is_err_and}
use Rattle.text_io.proofs.Sends.{Writes-held}
use Rattle.run_engine.proofs.HasTold.{Tells-held, Tells-written}
use Rattle.run_engine.proofs.Traced.{Tells-due}
use Rattle.run_engine.proofs.traces.write_trace.Goals as goal

pub returns-in_err-print_run : goal.returns-in_err-print_run
returns-in_err-print_run g c = λ w led same.
    let p = err_from_is_err_and c.from_residual.result c.from_residual.ensures.1 in
    let a = g.W.Sink.state c.args.writer.now in
    let b = g.W.Sink.state c.print_run.new.writer in
    let told = rw c.new-block.ensures at (c.in_err-print_run.ensures w led) in
    rw (p.1, p.2)
    (Tells-due {A = Unit {0}} a b c.args.schedule.now c.args.counted.now.made g.row.B c.args.counted.now.steps w _ same c.requires.bits
    (Tells-held {A = Unit {0}} {B = Unit {0}} a b _ _ [] _ told))

pub returns : goal.returns
returns g c = λ w led same.
    let a = g.W.Sink.state c.args.writer.now in
    let b = g.W.Sink.state c.print_run.new.writer in
    let d = g.W.Sink.state c.finish.new.sink in
    let told = rw c.new-block.ensures at (c.in_ok-print_run.ensures w led) in
    Tells-due {A = Unit {0}} a d c.args.schedule.now c.args.counted.now.made g.row.B c.args.counted.now.steps w c.finish.result same c.requires.bits
    (Tells-written {A = Unit {0}} a d _ c.finish.result (Writes-held a b d told.quiet _ _ c.finish.result told.ok c.finish.ensures))
