use Rattle.std.proofs.Common.{◌-◌, arith}
use Rattle.std.specs.Prelude.{replicate}
use Rattle.std.proofs.lemmas.Result.{err_from_is_err_and}
use Rattle.run_engine.proofs.HasTold.{HasTold-can, StopsTelling-behind, Tells-refused, stopped_one, told_one}
use Rattle.run_engine.proofs.Texts.{can_next}
use Rattle.run_engine.proofs.printing.put_moves.Goals as goal

pub put_move-requires : goal.put_move-requires
put_move-requires g c =
    let few = c.loop-test.true in
    let can = HasTold-can (g.P.RunPrinter.pieces c.args.printer.now).each _ _ _ _ _ c.loop.world c.loop.block
    (replicate (c.args.count - c.loop.counter) c.args.one) c.loop.invariant.told c.requires.can in
    (omega arith, (c.requires.printer, (can_next c.args.count c.loop.counter c.args.one c.loop.world few can, omega (arith, few, c.requires.left, c.loop.invariant.steps))))

pub returns-in_err-put_move-clause-tells : goal.returns-in_err-put_move-clause-tells
returns-in_err-put_move-clause-tells g c =
    let p = err_from_is_err_and c.from_residual.result c.from_residual.ensures.1 in
    let each = (g.P.RunPrinter.pieces c.args.printer.now).each in
    let told = c.loop.invariant.told in
    let tells = c.in_err-put_move.ensures.tells in
    let a = g.W.Sink.state c.args.writer.now in
    let b = g.W.Sink.state c.loop.writer in
    let d = g.W.Sink.state c.put_move.new.writer in
    rw (p.1, p.2)
    (Tells-refused a d _ _ _
    (stopped_one each a b d c.args.block.now c.args.world.now c.args.one c.args.count c.loop.counter c.loop.world c.loop.block c.loop-test.true told c.requires.can tells.prefix)
    (StopsTelling-behind a b d _ told.quiet tells.cause))

pub loop-preserved : goal.loop-preserved
loop-preserved g c =
    let ensures = c.in_ok-put_move.ensures in
    let each = (g.P.RunPrinter.pieces c.args.printer.now).each in
    let a = g.W.Sink.state c.args.writer.now in
    let b = g.W.Sink.state c.loop.writer in
    let d = g.W.Sink.state c.put_move.new.writer in
    record {
      told = told_one each a b d c.args.block.now c.args.world.now c.args.one c.args.count c.loop.counter c.loop.world _ c.loop.block _ c.loop-test.true c.loop.invariant.told ensures.ok
          ensures.tells.ok ensures.tells.quiet;
      steps = omega (arith, ensures.steps, c.loop.invariant.steps);
    }
