use Rattle.std.proofs.Common.{map, length, refl, ◌∙◌}
use Rattle.std.specs.List.{flat_map}
use Rattle.std.proofs.lemmas.Result.{err_from_is_err_and}
use Rattle.job_results.specs.Results.{row_of}
use Rattle.text_io.proofs.Sends.{Writes-held, Writes-refused}
use Rattle.report.specs.ResultsTable.{results_header_text, result_text, job_count_text}
use Rattle.report.proofs.UnderWay.{pieces_stop_at_first, pieces_stop_at_second, pieces_stop_at_third, pieces_done}
use Rattle.report.proofs.result_tables.write_results.Goals as goal

pub returns-in_err-put : goal.returns-in_err-put
returns-in_err-put g c =
    let p = err_from_is_err_and c.from_residual.result c.from_residual.ensures.1 in
    let t = rw (c.new-block.ensures, c.as_slice.ensures, c.results_header_line.ensures) at c.in_err-put.ensures.prefix in
    let rows = flat_map result_text (map row_of c.args.results.now) in
    let counts = flat_map (λ e. job_count_text e.0 e.1) c.args.counts.now.entries in
    rw (p.1, p.2) (Writes-refused _ _ _ refl _ _ _ _ c.in_err-put.ensures (pieces_stop_at_first _ _ (results_header_text (length c.args.results.now)) rows counts t))

pub returns-in_err-put_results : goal.returns-in_err-put_results
returns-in_err-put_results g c =
    let p = err_from_is_err_and c.from_residual-in_err-put_results.result c.from_residual-in_err-put_results.ensures.1 in
    let s = rw (c.new-block.ensures, c.as_slice.ensures, c.results_header_line.ensures) at c.in_ok-put.ensures.ok in
    let rows = flat_map result_text (map row_of c.args.results.now) in
    let counts = flat_map (λ e. job_count_text e.0 e.1) c.args.counts.now.entries in
    rw (p.1, p.2)
    (Writes-refused _ _ _ c.in_ok-put.ensures.quiet _ _ _ _ c.in_err-put_results.ensures
    (pieces_stop_at_second _ _ _ (results_header_text (length c.args.results.now)) rows counts _ s c.in_err-put_results.ensures.prefix))

pub returns-in_err-put_counts : goal.returns-in_err-put_counts
returns-in_err-put_counts g c =
    let p = err_from_is_err_and c.from_residual-in_err-put_counts.result c.from_residual-in_err-put_counts.ensures.1 in
    let s = rw (c.new-block.ensures, c.as_slice.ensures, c.results_header_line.ensures) at c.in_ok-put.ensures.ok in
    rw (p.1, p.2)
    (Writes-refused _ _ _ (c.in_ok-put_results.ensures.quiet ∙ c.in_ok-put.ensures.quiet) _ _ _ _ c.in_err-put_counts.ensures
    (pieces_stop_at_third _ _ _ _ (results_header_text (length c.args.results.now)) _ _ _ _ s c.in_ok-put_results.ensures.ok c.in_err-put_counts.ensures.prefix))

pub returns : goal.returns
returns g c =
    let s = rw (c.new-block.ensures, c.as_slice.ensures, c.results_header_line.ensures) at c.in_ok-put.ensures.ok in
    let sends = pieces_done _ _ _ _ (results_header_text (length c.args.results.now)) _ _ _ _ _ s c.in_ok-put_results.ensures.ok c.in_ok-put_counts.ensures.ok in
    Writes-held _ _ _ (c.in_ok-put_counts.ensures.quiet ∙ c.in_ok-put_results.ensures.quiet ∙ c.in_ok-put.ensures.quiet) _ _ c.finish.result sends c.finish.ensures
