use Rattle.std.proofs.Common.{map, codes, refl, ◌∙◌}
use Rattle.std.specs.List.{flat_map}
use Rattle.std.proofs.lemmas.Result.{err_from_is_err_and}
use Rattle.history.specs.Tables.{shown}
use Rattle.text_io.proofs.Sends.{Writes-held, Writes-refused}
use Rattle.report.specs.HistoryTable.{row_text, count_text}
use Rattle.report.proofs.UnderWay.{pieces_stop_at_first, pieces_stop_at_second, pieces_stop_at_third, pieces_done}
use Rattle.report.proofs.history_tables.write_table.Goals as goal

pub returns-in_err-put : goal.returns-in_err-put
returns-in_err-put g c =
    let p = err_from_is_err_and c.from_residual.result c.from_residual.ensures.1 in
    let t = rw (c.new-block.ensures) at c.in_err-put.ensures.prefix in
    let rows = flat_map (λ e. row_text e.0 e.1) (map shown c.args.placed.now) in
    let counts = flat_map (λ e. count_text e.0 e.1) c.args.counts.now.entries in
    rw (p.1, p.2) (Writes-refused _ _ _ refl _ _ _ _ c.in_err-put.ensures (pieces_stop_at_first _ _ (codes "yes\n") rows counts t))

pub returns-in_err-put_rows : goal.returns-in_err-put_rows
returns-in_err-put_rows g c =
    let p = err_from_is_err_and c.from_residual-in_err-put_rows.result c.from_residual-in_err-put_rows.ensures.1 in
    let s = rw (c.new-block.ensures) at c.in_ok-put.ensures.ok in
    let rows = flat_map (λ e. row_text e.0 e.1) (map shown c.args.placed.now) in
    let counts = flat_map (λ e. count_text e.0 e.1) c.args.counts.now.entries in
    rw (p.1, p.2)
    (Writes-refused _ _ _ c.in_ok-put.ensures.quiet _ _ _ _ c.in_err-put_rows.ensures
    (pieces_stop_at_second _ _ _ (codes "yes\n") rows counts _ s c.in_err-put_rows.ensures.prefix))

pub returns-in_err-put_counts : goal.returns-in_err-put_counts
returns-in_err-put_counts g c =
    let p = err_from_is_err_and c.from_residual-in_err-put_counts.result c.from_residual-in_err-put_counts.ensures.1 in
    let s = rw (c.new-block.ensures) at c.in_ok-put.ensures.ok in
    rw (p.1, p.2)
    (Writes-refused _ _ _ (c.in_ok-put_rows.ensures.quiet ∙ c.in_ok-put.ensures.quiet) _ _ _ _ c.in_err-put_counts.ensures
    (pieces_stop_at_third _ _ _ _ (codes "yes\n") _ _ _ _ s c.in_ok-put_rows.ensures.ok c.in_err-put_counts.ensures.prefix))

pub returns : goal.returns
returns g c =
    let s = rw (c.new-block.ensures) at c.in_ok-put.ensures.ok in
    let sends = pieces_done _ _ _ _ (codes "yes\n") _ _ _ _ _ s c.in_ok-put_rows.ensures.ok c.in_ok-put_counts.ensures.ok in
    Writes-held _ _ _ (c.in_ok-put_counts.ensures.quiet ∙ c.in_ok-put_rows.ensures.quiet ∙ c.in_ok-put.ensures.quiet) _ _ c.finish.result sends c.finish.ensures
