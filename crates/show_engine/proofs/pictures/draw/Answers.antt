use Rattle.std.proofs.Common.{[], ap, subst, sym, take}
use Rattle.std.specs.List.Sorted.{IsNonDecreasing}
use Rattle.std.proofs.lemmas.Result.{err_from_is_err_and}
use Rattle.schedule_text.specs.Schedules.{Schedule}
use Rattle.run_engine.proofs.HasTold.{StopsTelling-memory, TakesPrefix-none, Tells-longer, Tells-refused}
use Rattle.show_engine.proofs.Ends.{Tells-end}
use Rattle.show_engine.specs.Legends.{legend_text, lines_in}
use Rattle.show_engine.specs.Rows.{shown_text}
use Rattle.show_engine.proofs.pictures.draw.Goals as goal

pub returns-in_err-lines : goal.returns-in_err-lines
returns-in_err-lines g c = λ w led same.
    let p = err_from_is_err_and c.from_residual.result c.from_residual.ensures.1 in
    let a = g.W.Sink.state c.args.writer.now in
    rw (p.1, p.2) (Tells-refused a a _ _ _ (TakesPrefix-none a _) (StopsTelling-memory a _ c.in_err-lines.ensures.memory))

pub print_run-requires-clause-printer : goal.print_run-requires-clause-printer
print_run-requires-clause-printer g c = (c.requires.fits, subst IsNonDecreasing (sym c.as_slice-effects.ensures.value) c.requires.count.effects.rising)

pub returns-in_err-print_run : goal.returns-in_err-print_run
returns-in_err-print_run g c = λ w led same.
    let p = err_from_is_err_and c.from_residual-in_err-print_run.result c.from_residual-in_err-print_run.ensures.1 in
    let a = g.W.Sink.state c.args.writer.now in
    let b = g.W.Sink.state c.print_run.new.writer in
    let s = c.args.schedule.now in
    let frame = c.args.frame in
    let rows = rw (c.new-block.ensures, c.as_slice-effects.ensures.value) at (c.in_err-print_run.ensures w led) in
    let legend = legend_text frame c.args.legend.now (lines_in frame s (take c.args.counted.now.run.made s.events)) in
    rw (p.1, p.2) (Tells-longer {A = Unit {0}} {B = Unit {0}} a b _ [] legend [] _ (Tells-longer {A = Unit {0}} {B = Unit {0}} a b _ _ (shown_text frame s.actors w.steps) [] _ rows))

pub returns : goal.returns
returns g c = λ w led same.
    let a = g.W.Sink.state c.args.writer.now in
    let b = g.W.Sink.state c.print_run.new.writer in
    let d = g.W.Sink.state c.write_end.new.writer in
    let rows = rw (c.new-block.ensures, c.as_slice-effects.ensures.value) at (c.in_ok-print_run.ensures w led) in
    let lines = c.in_ok-lines.ensures.ok in
    let actors = ap (λ (s : Schedule). s.actors) c.schedule.view_is in
    let writes = rw (c.shown_line-last.ensures, c.as_slice.ensures.value, lines, actors, same) at c.write_end.ensures in
    Tells-end {A = Unit {0}} a b d _ _ _ _ c.write_end.result rows.ok rows.quiet writes
