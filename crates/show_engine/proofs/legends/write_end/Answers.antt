use Rattle.std.proofs.Common.{◌+◌, ◌++◌, drop, refl, ◌∙◌}
use Rattle.std.specs.List.{flat_map}
use Rattle.std.proofs.lemmas.List.{append-nil}
use Rattle.std.proofs.lemmas.Result.{err_from_is_err_and}
use Rattle.text_io.proofs.Sends.{Sends-trans, TakesPrefix-longer, TakesPrefix-trans, Writes-held, Writes-refused}
use Rattle.text_io.proofs.Rows.{rows_all, rows_rest}
use Rattle.show_engine.specs.Legends.{legend_text, meaning_row}
use Rattle.show_engine.proofs.Ends.{rows_more_at}
use Rattle.show_engine.proofs.legends.write_end.Goals as goal

pub returns-in_err-put : goal.returns-in_err-put
returns-in_err-put g c =
    let p = err_from_is_err_and c.from_residual.result c.from_residual.ensures.1 in
    let legend = legend_text c.args.frame c.args.legend.now c.args.lines.now in
    let puts = rw c.as_slice.ensures at c.in_err-put.ensures in
    rw (p.1, p.2) (Writes-refused (g.W.Sink.state c.args.writer.now) _ _ refl _ _ _ _ puts (TakesPrefix-longer _ _ _ legend puts.prefix))

pub returns-in_err-put-2 : goal.returns-in_err-put-2
returns-in_err-put-2 g c =
    let p = err_from_is_err_and c.from_residual-in_err-put-2.result c.from_residual-in_err-put-2.ensures.1 in
    let row = meaning_row c.args.frame c.args.lines.now in
    let head = c.args.block ++ c.args.last.now in
    let rows = c.args.legend.now in
    let i = c.loop-meaning.meaning-index in
    let t = rw (c.as_slice-in-loop-meaning.ensures, c.meaning_row.ensures) at c.in_err-put-2.ensures.prefix in
    let within = c.loop-meaning-test.true in
    let u = rw (rows_more_at row head rows i) at (TakesPrefix-trans _ _ _ _ _ _ c.loop-meaning.invariant.sends t) in
    let v = rw (rows_rest row head rows (i + 1)) at (TakesPrefix-longer _ _ _ (flat_map row (drop (i + 1) rows)) u) in
    rw (p.1, p.2) (Writes-refused _ _ _ c.loop-meaning.invariant.quiet _ _ _ _ c.in_err-put-2.ensures v)

pub loop-meaning-init : goal.loop-meaning-init
loop-meaning-init g c =
    let puts = rw c.as_slice.ensures at c.in_ok-put.ensures in
    record { sends = rw append-nil puts.ok; quiet = puts.quiet }

pub loop-meaning-preserved : goal.loop-meaning-preserved
loop-meaning-preserved g c =
    let row = meaning_row c.args.frame c.args.lines.now in
    let head = c.args.block ++ c.args.last.now in
    let i = c.loop-meaning.meaning-index in
    let t = rw (c.as_slice-in-loop-meaning.ensures, c.meaning_row.ensures) at c.in_ok-put-2.ensures.ok in
    let within = c.loop-meaning-test.true in
    record {
      sends = rw (rows_more_at row head c.args.legend.now i) at (Sends-trans _ _ _ _ _ _ _ c.loop-meaning.invariant.sends t);
      quiet = c.in_ok-put-2.ensures.quiet ∙ c.loop-meaning.invariant.quiet;
    }

pub returns : goal.returns
returns g c =
    let row = meaning_row c.args.frame c.args.lines.now in
    let head = c.args.block ++ c.args.last.now in
    let all = rows_all row head c.args.legend.now c.loop-meaning.meaning-index c.loop-meaning-test.false in
    let sends = rw all at c.loop-meaning.invariant.sends in
    Writes-held _ _ _ c.loop-meaning.invariant.quiet _ _ c.finish.result sends c.finish.ensures
