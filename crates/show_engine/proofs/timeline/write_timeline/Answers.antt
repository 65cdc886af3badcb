use Rattle.std.proofs.Common.{◌+◌, [], drop, length, ◌∙◌}
use Rattle.std.specs.Prelude.{count_by}
use Rattle.std.specs.List.{flat_map}
use Rattle.std.proofs.lemmas.Result.{err_from_is_err_and}
use Rattle.text_io.proofs.Sends.{Sends-trans, TakesPrefix-longer, TakesPrefix-trans, Writes-held, Writes-refused}
use Rattle.text_io.proofs.Rows.{rows_more, rows_rest, rows_all}
use Rattle.show_engine.specs.Scales.{is_shown}
use Rattle.show_engine.specs.Timelines.{shown_row, span_text}
use Rattle.show_engine.proofs.timeline.write_timeline.Goals as goal

pub returns-in_err-put : goal.returns-in_err-put
returns-in_err-put g c =
    let p = err_from_is_err_and c.from_residual.result c.from_residual.ensures.1 in
    let row = shown_row c.args.scale in
    let ops = c.args.history.now in
    let i = c.loop-operation.operation-index in
    let t = rw (c.as_slice.ensures, c.shown_row.ensures) at c.in_err-put.ensures.prefix in
    let u = rw (rows_more row [] ops i c.operation-item.result c.loop-operation-test.true c.operation-item.is)
    at (TakesPrefix-trans _ _ _ _ _ _ c.loop-operation.invariant.sends t) in
    let v = rw (rows_rest row [] ops (i + 1)) at (TakesPrefix-longer _ _ _ (flat_map row (drop (i + 1) ops)) u) in
    rw (p.1, p.2)
    (Writes-refused _ _ _ c.loop-operation.invariant.quiet _ _ _ _ c.in_err-put.ensures
    (TakesPrefix-longer _ _ _ (span_text c.args.scale c.args.last (count_by (is_shown c.args.scale) ops) (length ops)) v))

pub loop-operation-preserved : goal.loop-operation-preserved
loop-operation-preserved g c =
    let i = c.loop-operation.operation-index in
    let t = rw (c.as_slice.ensures, c.shown_row.ensures) at c.in_ok-put.ensures.ok in
    record {
      sends = rw (rows_more (shown_row c.args.scale) [] c.args.history.now i c.operation-item.result c.loop-operation-test.true c.operation-item.is)
          at (Sends-trans _ _ _ _ _ _ _ c.loop-operation.invariant.sends t);
      quiet = c.in_ok-put.ensures.quiet ∙ c.loop-operation.invariant.quiet;
    }

pub returns-in_err-put-2 : goal.returns-in_err-put-2
returns-in_err-put-2 g c =
    let p = err_from_is_err_and c.from_residual-in_err-put-2.result c.from_residual-in_err-put-2.ensures.1 in
    let all = rows_all (shown_row c.args.scale) [] c.args.history.now c.loop-operation.operation-index c.loop-operation-test.false in
    let sends = rw all at c.loop-operation.invariant.sends in
    let t = rw (c.as_slice-2.ensures, c.span_line-span.ensures, c.count_shown-shown.ensures) at c.in_err-put-2.ensures.prefix in
    rw (p.1, p.2) (Writes-refused _ _ _ c.loop-operation.invariant.quiet _ _ _ _ c.in_err-put-2.ensures (TakesPrefix-trans _ _ _ _ _ _ sends t))

pub returns : goal.returns
returns g c =
    let all = rows_all (shown_row c.args.scale) [] c.args.history.now c.loop-operation.operation-index c.loop-operation-test.false in
    let sends = rw all at c.loop-operation.invariant.sends in
    let last = rw (c.as_slice-2.ensures, c.span_line-span.ensures, c.count_shown-shown.ensures) at c.in_ok-put-2.ensures in
    Writes-held _ _ _ (last.quiet ∙ c.loop-operation.invariant.quiet) _ _ c.finish.result (Sends-trans _ _ _ _ _ _ _ sends last.ok) c.finish.ensures
