use Rattle.std.proofs.Common.{ap, arith, drop}
use Rattle.std.specs.Prelude.{replicate}
use Rattle.std.proofs.lemmas.Result.{err_from_is_err_and}
use Rattle.std.proofs.lemmas.List.{drop_all}
use Rattle.schedule_text.specs.Schedules.{moves_of}
use Rattle.run_engine.proofs.HasTold.{HasTold-led, StopsTelling-behind, Tells-refused, can_event, stopped_event, told_event}
use Rattle.run_engine.proofs.printing.put_events.Goals as goal

pub put_moves-requires : goal.put_moves-requires
put_moves-requires g c =
    let within = c.loop-event-test.true in
    let one = c.moves_in-one in
    let each = (g.P.RunPrinter.pieces c.args.printer.now).each in
    let b = g.W.Sink.state c.loop-event.writer in
    let can = can_event each (g.W.Sink.state c.args.writer.now) b b c.args.block.now c.args.world.now c.args.events.now c.loop-event.event-index
    c.event-item.result within c.event-item.is c.loop-event.world
    c.loop-event.block (replicate one.result.1 one.result.0) one.ensures.moves c.loop-event.invariant.told c.requires.can in
    (omega arith, (c.requires.printer, (can, omega (arith, within, c.requires.few, one.ensures.few, c.loop-event.invariant.steps))))

pub returns-in_err-put_moves-clause-tells : goal.returns-in_err-put_moves-clause-tells
returns-in_err-put_moves-clause-tells g c =
    let p = err_from_is_err_and c.from_residual.result c.from_residual.ensures.1 in
    let one = c.moves_in-one in
    let each = (g.P.RunPrinter.pieces c.args.printer.now).each in
    let told = c.loop-event.invariant.told in
    let tells = c.in_err-put_moves.ensures.tells in
    let a = g.W.Sink.state c.args.writer.now in
    let b = g.W.Sink.state c.loop-event.writer in
    let d = g.W.Sink.state c.put_moves.new.writer in
    rw (p.1, p.2)
    (Tells-refused a d _ _ _
    (stopped_event each a b d c.args.block.now c.args.world.now c.args.events.now c.loop-event.event-index c.event-item.result c.loop-event-test.true
    c.event-item.is c.loop-event.world c.loop-event.block
    (replicate one.result.1 one.result.0) one.ensures.moves told c.requires.can tells.prefix)
    (StopsTelling-behind a b d _ told.quiet tells.cause))

pub loop-event-preserved : goal.loop-event-preserved
loop-event-preserved g c =
    let one = c.moves_in-one in
    let each = (g.P.RunPrinter.pieces c.args.printer.now).each in
    let ensures = c.in_ok-put_moves.ensures in
    let a = g.W.Sink.state c.args.writer.now in
    let b = g.W.Sink.state c.loop-event.writer in
    let d = g.W.Sink.state c.put_moves.new.writer in
    record {
      told = told_event each a b d c.args.block.now c.args.world.now c.args.events.now c.loop-event.event-index c.event-item.result c.loop-event-test.true c.event-item.is c.loop-event.world
          c.loop-event.block (replicate one.result.1 one.result.0) one.ensures.moves c.loop-event.invariant.told _ _ ensures.ok ensures.tells.ok ensures.tells.quiet;
      steps = omega (arith, ensures.steps, one.ensures.few, c.loop-event.invariant.steps);
    }

pub returns-clause-ok : goal.returns-clause-ok
returns-clause-ok g c =
    let i = c.loop-event.event-index in
    let each = (g.P.RunPrinter.pieces c.args.printer.now).each in
    HasTold-led each (g.W.Sink.state c.args.writer.now) (g.W.Sink.state c.loop-event.writer) c.args.block.now c.args.world.now (moves_of c.args.events.now) c.loop-event.world c.loop-event.block
    (moves_of (drop i c.args.events.now)) c.loop-event.invariant.told (ap moves_of (drop_all i c.args.events.now c.loop-event-test.false))
