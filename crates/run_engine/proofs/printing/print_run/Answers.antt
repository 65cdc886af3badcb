use Rattle.std.proofs.Common.{ap, arith, take}
use Rattle.std.specs.List.{slice_get}
use Rattle.std.proofs.lemmas.Result.{err_from_is_err_and}
use Rattle.run_engine.specs.Runs.{opening_of}
use Rattle.step_machine.specs.Machine.{World}
use Rattle.run_engine.specs.Pieces.{rest_text}
use Rattle.run_engine.proofs.HasTold.{StopsTelling-memory, TakesPrefix-none, Tells-longer, Tells-put, Tells-refused, Tells-then}
use Rattle.run_engine.proofs.TraceStops.{led_alone}
use Rattle.run_engine.proofs.printing.print_run.Goals as goal

pub returns-in_err-world : goal.returns-in_err-world
returns-in_err-world g c = λ w led.
    let p = err_from_is_err_and c.from_residual.result c.from_residual.ensures.1 in
    let a = g.W.Sink.state c.args.writer.now in
    rw (p.1, p.2) (Tells-refused a a _ _ _ (TakesPrefix-none a _) (StopsTelling-memory a _ c.in_err-world.ensures.err))

pub returns-in_err-put_made : goal.returns-in_err-put_made
returns-in_err-put_made g c = λ w led.
    let p = err_from_is_err_and c.from_residual-in_err-put_made.result c.from_residual-in_err-put_made.ensures.1 in
    let a = g.W.Sink.state c.args.writer.now in
    let b = g.W.Sink.state c.put_made.new.writer in
    let s = c.args.schedule.now in
    let rest = rest_text (g.P.RunPrinter.pieces c.args.printer.now) w s.actors (slice_get s.events c.args.counted.now.made) in
    let rows = rw c.in_ok-world.ensures.ok at c.in_err-put_made.ensures.tells in
    rw (p.1, p.2) (Tells-longer {A = Unit {0}} {B = Unit {0}} a b _ _ rest _ _ rows)

pub put_rest-requires : goal.put_rest-requires
put_rest-requires g c =
    let s = c.args.schedule.now in
    let count = c.requires.count in
    let led = rw c.in_ok-world.ensures.ok at c.in_ok-put_made.ensures.ok in
    let final = led_alone (opening_of s) count.world c.put_made.new.world (take c.args.counted.now.made s.events) count.led led in
    (omega arith, (c.requires.printer, omega (arith, ap (λ (w : World). w.steps) final, count.few, count.within, c.requires.range.events)))

pub returns : goal.returns
returns g c = λ w led.
    let a = g.W.Sink.state c.args.writer.now in
    let b = g.W.Sink.state c.put_made.new.writer in
    let d = g.W.Sink.state c.put_rest.new.writer in
    let s = c.args.schedule.now in
    let told = rw c.in_ok-world.ensures.ok at c.in_ok-put_made.ensures in
    let final = led_alone (opening_of s) w c.put_made.new.world (take c.args.counted.now.made s.events) led told.ok in
    let rest = rw final at c.put_rest.ensures in
    Tells-then {A = Unit {0}} a b d _ _ _ _ c.put_rest.result told.tells.ok told.tells.quiet (Tells-put {A = Unit {0}} b d _ _ c.put_rest.result rest)
