use Rattle.std.proofs.Common.{◌+◌, ◌++◌, ◌∙◌}
use Rattle.std.proofs.lemmas.Result.{err_from_is_err_and}
use Rattle.text_io.specs.Blocks.{Sends, TakesPrefix}
use Rattle.text_io.proofs.Sends.{Puts-refused}
use Rattle.run_engine.proofs.Standings.{actors_put, actors_stopped}
use Rattle.run_engine.proofs.printing.put_stands.Goals as goal

pub returns-in_err-put : goal.returns-in_err-put
returns-in_err-put g c =
    let p = err_from_is_err_and c.from_residual.result c.from_residual.ensures.1 in
    let i = c.loop-index.index in
    let each = (g.P.RunPrinter.pieces c.args.printer.now).stand c.args.world.now in
    let a = g.W.Sink.state c.args.writer.now in
    let b = g.W.Sink.state c.loop-index.writer in
    let d = g.W.Sink.state c.put.new.sink in
    let part : TakesPrefix b.contents d.contents (c.loop-index.block ++ each (i + 1)) = rw (c.as_slice.ensures, c.stand_line-line.ensures) at c.in_err-put.ensures.prefix in
    let begun = actors_stopped each c.args.block.now a b d i c.args.actors c.loop-index.block c.loop-index-test.true c.loop-index.invariant.sends part in
    rw (p.1, p.2) (Puts-refused a b d c.loop-index.invariant.quiet _ _ _ _ c.in_err-put.ensures begun _)

pub loop-index-preserved : goal.loop-index-preserved
loop-index-preserved g c =
    let i = c.loop-index.index in
    let each = (g.P.RunPrinter.pieces c.args.printer.now).stand c.args.world.now in
    let a = g.W.Sink.state c.args.writer.now in
    let b = g.W.Sink.state c.loop-index.writer in
    let d = g.W.Sink.state c.put.new.sink in
    let more : Sends b.contents d.contents (c.loop-index.block ++ each (i + 1)) c.put.new.self = rw (c.as_slice.ensures, c.stand_line-line.ensures) at c.in_ok-put.ensures.ok in
    record {
      sends = actors_put each c.args.block.now a b d i c.loop-index.block c.put.new.self c.loop-index.invariant.sends more;
      quiet = c.in_ok-put.ensures.quiet ∙ c.loop-index.invariant.quiet;
    }
