use Rattle.std.proofs.Common.{◌+◌, length, drop, refl, ◌∙◌}
use Rattle.std.specs.List.{flat_map}
use Rattle.std.proofs.lemmas.Result.{err_from_is_err_and}
use Rattle.history_text.specs.HistoryText.{header_text, operation_text}
use Rattle.text_io.proofs.Sends.{Sends-trans, TakesPrefix-longer, TakesPrefix-trans, Writes-held, Writes-refused}
use Rattle.text_io.proofs.Rows.{rows_more, rows_rest, rows_all}
use Rattle.history_text.proofs.printers.print_history.Goals as goal

pub returns-in_err-put : goal.returns-in_err-put
returns-in_err-put g c =
    let p = err_from_is_err_and c.from_residual.result c.from_residual.ensures.1 in
    let t = rw (c.new-block.ensures, c.as_slice.ensures, c.header_line.ensures) at c.in_err-put.ensures.prefix in
    rw (p.1, p.2) (Writes-refused _ _ _ refl _ _ _ _ c.in_err-put.ensures (TakesPrefix-longer _ _ _ _ t))

pub returns-in_err-put-2 : goal.returns-in_err-put-2
returns-in_err-put-2 g c =
    let p = err_from_is_err_and c.from_residual-in_err-put-2.result c.from_residual-in_err-put-2.ensures.1 in
    let head = header_text (length c.args.history.now) in
    let i = c.loop-operation.operation-index in
    let t = rw (c.as_slice-in-loop-operation.ensures, c.operation_line.ensures) at c.in_err-put-2.ensures.prefix in
    let u = rw (rows_more operation_text head c.args.history.now i c.operation-item.result c.loop-operation-test.true c.operation-item.is)
    at (TakesPrefix-trans _ _ _ _ _ _ c.loop-operation.invariant.sends t) in
    let v = rw (rows_rest operation_text head c.args.history.now (i + 1)) at (TakesPrefix-longer _ _ _ (flat_map operation_text (drop (i + 1) c.args.history.now)) u) in
    rw (p.1, p.2) (Writes-refused _ _ _ c.loop-operation.invariant.quiet _ _ _ _ c.in_err-put-2.ensures v)

pub loop-operation-preserved : goal.loop-operation-preserved
loop-operation-preserved g c =
    let head = header_text (length c.args.history.now) in
    let i = c.loop-operation.operation-index in
    let t = rw (c.as_slice-in-loop-operation.ensures, c.operation_line.ensures) at c.in_ok-put-2.ensures.ok in
    record {
      sends = rw (rows_more operation_text head c.args.history.now i c.operation-item.result c.loop-operation-test.true c.operation-item.is)
          at (Sends-trans _ _ _ _ _ _ _ c.loop-operation.invariant.sends t);
      quiet = c.in_ok-put-2.ensures.quiet ∙ c.loop-operation.invariant.quiet;
    }

pub returns : goal.returns
returns g c =
    let head = header_text (length c.args.history.now) in
    let all = rows_all operation_text head c.args.history.now c.loop-operation.operation-index c.loop-operation-test.false in
    let sends = rw all at c.loop-operation.invariant.sends in
    Writes-held _ _ _ c.loop-operation.invariant.quiet _ _ c.finish.result sends c.finish.ensures
