use Rattle.std.proofs.Common.{◌∙◌}
use Rattle.std.proofs.lemmas.Result.{err_from_is_err_and}
use Rattle.history.specs.Tables.{shown}
use Rattle.text_io.proofs.Sends.{Puts-refused}
use Rattle.report.specs.HistoryTable.{row_text}
use Rattle.report.proofs.TableRows.{rows_from}
use Rattle.report.proofs.UnderWay.{under_way_more, under_way_stops}
use Rattle.report.proofs.history_tables.put_rows.Goals as goal

pub returns-in_err-put : goal.returns-in_err-put
returns-in_err-put g c =
    let p = err_from_is_err_and c.from_residual.result c.from_residual.ensures.1 in
    let t = rw (c.as_slice.ensures, c.row_line.ensures) at c.in_err-put.ensures.prefix in
    let u = rw (rows_from (λ e. row_text e.0 e.1) shown c.args.placed.now c.loop-at.at-index c.loop-at-item.result c.loop-at-test.true c.loop-at-item.is)
    at c.loop-at.invariant.sends in
    rw (p.1, p.2) (Puts-refused _ _ _ c.loop-at.invariant.quiet _ _ _ _ c.in_err-put.ensures (under_way_stops _ _ _ _ _ _ _ u t) _)

pub loop-at-preserved : goal.loop-at-preserved
loop-at-preserved g c =
    let t = rw (c.as_slice.ensures, c.row_line.ensures) at c.in_ok-put.ensures.ok in
    let u = rw (rows_from (λ e. row_text e.0 e.1) shown c.args.placed.now c.loop-at.at-index c.loop-at-item.result c.loop-at-test.true c.loop-at-item.is)
    at c.loop-at.invariant.sends in
    record {
      sends = under_way_more _ _ _ _ _ _ _ _ u t;
      quiet = c.in_ok-put.ensures.quiet ∙ c.loop-at.invariant.quiet;
    }
