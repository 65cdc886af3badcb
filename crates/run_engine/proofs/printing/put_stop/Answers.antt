use Rattle.std.proofs.Common.{◌++◌, append_assoc, subst, List, ℕ}
use Rattle.std.proofs.lemmas.Result.{err_from_is_err_and}
use Rattle.text_io.specs.Blocks.{Puts, TakesPrefix}
use Rattle.text_io.proofs.Sends.{Puts-more, TakesPrefix-longer}
use Rattle.run_engine.specs.Pieces.{actors_text}
use Rattle.run_engine.proofs.printing.put_stop.Goals as goal

pub returns-in_err-put_stands : goal.returns-in_err-put_stands
returns-in_err-put_stands g c =
    let p = err_from_is_err_and c.from_residual.result c.from_residual.ensures.1 in
    let a = g.W.Sink.state c.args.writer.now in
    let b = g.W.Sink.state c.put_stands.new.writer in
    let w = c.args.world.now in
    let pieces = g.P.RunPrinter.pieces c.args.printer.now in
    let last = pieces.last w c.args.event in
    let puts = c.in_err-put_stands.ensures in
    let whole = append_assoc c.args.block.now (actors_text (pieces.stand w) c.args.actors) last in
    rw (p.1, p.2)
    (record {
      ok = tt;
      quiet = tt;
      only_write = puts.only_write;
      prefix = subst (λ (l : List ℕ). TakesPrefix a.contents b.contents l) whole (TakesPrefix-longer a.contents b.contents _ last puts.prefix);
      cause = puts.cause;
    })

pub returns : goal.returns
returns g c =
    let a = g.W.Sink.state c.args.writer.now in
    let b = g.W.Sink.state c.put_stands.new.writer in
    let d = g.W.Sink.state c.put.new.sink in
    let w = c.args.world.now in
    let pieces = g.P.RunPrinter.pieces c.args.printer.now in
    let last = pieces.last w c.args.event in
    let first = c.in_ok-put_stands.ensures in
    let second = rw (c.as_slice.ensures, c.last_line-last.ensures) at c.put.ensures in
    let stands = actors_text (pieces.stand w) c.args.actors in
    subst (λ (l : List ℕ). Puts a d l c.put.new.self c.put.result) (append_assoc c.args.block.now stands last)
    (Puts-more a b d first.quiet (c.args.block.now ++ stands) c.put_stands.new.block last c.put.new.self c.put.result first.ok second)
