use Rattle.std.proofs.Common.{arith, take}
use Rattle.std.proofs.lemmas.Result.{err_from_is_err_and}
use Rattle.schedule_text.specs.Schedules.{moves_of}
use Rattle.run_engine.specs.Pieces.{moves_text}
use Rattle.run_engine.proofs.HasTold.{Tells-longer, Tells-put, Tells-then}
use Rattle.run_engine.proofs.TraceStops.{can_make}
use Rattle.run_engine.proofs.printing.put_made.Goals as goal

pub returns-in_err-put_heading-clause-tells : goal.returns-in_err-put_heading-clause-tells
returns-in_err-put_heading-clause-tells g c =
    let p = err_from_is_err_and c.from_residual.result c.from_residual.ensures.1 in
    let a = g.W.Sink.state c.args.writer.now in
    let b = g.W.Sink.state c.put_heading.new.writer in
    let each = (g.P.RunPrinter.pieces c.args.printer.now).each in
    let rows = moves_text each (moves_of (take c.args.counted.now.made c.args.schedule.now.events)) c.args.world.now in
    rw (p.1, p.2) (Tells-longer {A = Unit {0}} {B = Unit {0}} a b _ _ rows _ _ (Tells-put {A = Unit {0}} a b _ _ _ c.in_err-put_heading.ensures))

pub put_events-requires : goal.put_events-requires
put_events-requires g c =
    let can = can_make c.args.schedule.now c.args.counted.now c.requires.count _ c.args.world.now c.first_events-events.ensures c.requires.opening
    c.requires.range in
    (omega (arith, can.1.0), (c.requires.printer, can))

pub returns-clause-ok : goal.returns-clause-ok
returns-clause-ok g c = rw c.first_events-events.ensures at c.put_events.ensures.ok

pub returns-clause-tells : goal.returns-clause-tells
returns-clause-tells g c =
    let a = g.W.Sink.state c.args.writer.now in
    let b = g.W.Sink.state c.put_heading.new.writer in
    let d = g.W.Sink.state c.put_events.new.writer in
    let heading = c.in_ok-put_heading.ensures in
    let rows = rw c.first_events-events.ensures at c.put_events.ensures.tells in
    Tells-then {A = Unit {0}} a b d _ _ _ _ c.put_events.result heading.ok heading.quiet rows
