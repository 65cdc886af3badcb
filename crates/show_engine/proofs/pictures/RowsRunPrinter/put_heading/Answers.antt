use Rattle.std.proofs.Common.{◌++◌, append_assoc, subst, List, ℕ}
use Rattle.std.proofs.lemmas.Result.{err_from_is_err_and}
use Rattle.text_io.specs.Blocks.{Puts, TakesPrefix}
use Rattle.text_io.proofs.Sends.{Puts-more, TakesPrefix-longer}
use Rattle.show_engine.specs.Rows.{names_row, queue_text}
use Rattle.show_engine.proofs.pictures.RowsRunPrinter.put_heading.Goals as goal

pub returns-in_err-put : goal.returns-in_err-put
returns-in_err-put g c =
    let p = err_from_is_err_and c.from_residual.result c.from_residual.ensures.1 in
    let a = g.W.Sink.state c.args.writer.now in
    let b = g.W.Sink.state c.put.new.sink in
    let puts = rw (c.as_slice.ensures, c.queue_line.ensures) at c.in_err-put.ensures in
    let whole = append_assoc c.args.block.now (queue_text c.args.schedule.now) (names_row c.args.self.now.frame) in
    rw (p.1, p.2)
    (record {
      ok = tt;
      quiet = tt;
      only_write = puts.only_write;
      prefix = subst (λ (l : List ℕ). TakesPrefix a.contents b.contents l) whole (TakesPrefix-longer a.contents b.contents _ (names_row c.args.self.now.frame) puts.prefix);
      cause = puts.cause;
    })

pub returns : goal.returns
returns g c =
    let a = g.W.Sink.state c.args.writer.now in
    let b = g.W.Sink.state c.put.new.sink in
    let d = g.W.Sink.state c.put-2.new.sink in
    let first = rw (c.as_slice.ensures, c.queue_line.ensures) at c.in_ok-put.ensures in
    let second = rw (c.as_slice-2.ensures, c.names_line.ensures) at c.put-2.ensures in
    subst (λ (l : List ℕ). Puts a d l c.put-2.new.self c.put-2.result) (append_assoc c.args.block.now (queue_text c.args.schedule.now) (names_row c.args.self.now.frame))
    (Puts-more a b d first.quiet (c.args.block.now ++ queue_text c.args.schedule.now) c.put.new.self (names_row c.args.self.now.frame) c.put-2.new.self c.put-2.result first.ok second)
