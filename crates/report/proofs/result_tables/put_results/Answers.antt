use Rattle.std.proofs.Common.{◌∙◌}
use Rattle.std.proofs.lemmas.Result.{err_from_is_err_and}
use Rattle.job_results.specs.Results.{row_of}
use Rattle.text_io.proofs.Sends.{Puts-refused}
use Rattle.report.specs.ResultsTable.{result_text}
use Rattle.report.proofs.TableRows.{rows_from}
use Rattle.report.proofs.UnderWay.{under_way_more, under_way_stops}
use Rattle.report.proofs.result_tables.put_results.Goals as goal

pub returns-in_err-put : goal.returns-in_err-put
returns-in_err-put g c =
    let p = err_from_is_err_and c.from_residual.result c.from_residual.ensures.1 in
    let t = rw (c.as_slice.ensures, c.result_line.ensures) at c.in_err-put.ensures.prefix in
    let u = rw (rows_from result_text row_of c.args.results.now c.loop-told.told-index c.told-item.result c.loop-told-test.true c.told-item.is)
    at c.loop-told.invariant.sends in
    rw (p.1, p.2) (Puts-refused _ _ _ c.loop-told.invariant.quiet _ _ _ _ c.in_err-put.ensures (under_way_stops _ _ _ _ _ _ _ u t) _)

pub loop-told-preserved : goal.loop-told-preserved
loop-told-preserved g c =
    let t = rw (c.as_slice.ensures, c.result_line.ensures) at c.in_ok-put.ensures.ok in
    let u = rw (rows_from result_text row_of c.args.results.now c.loop-told.told-index c.told-item.result c.loop-told-test.true c.told-item.is)
    at c.loop-told.invariant.sends in
    record {
      sends = under_way_more _ _ _ _ _ _ _ _ u t;
      quiet = c.in_ok-put.ensures.quiet ∙ c.loop-told.invariant.quiet;
    }
