-- Each operation adds its row.
use Rattle.std.proofs.Common.{◌+◌, ◌++◌, ◌∙◌, ap, sym, drop, map, append_assoc, append-nil}
use Rattle.std.proofs.lemmas.List.{at_drop_all}
use Rattle.recording_text.specs.RecordingReading.{bytes_of}
use Rattle.show_engine.specs.Reasons.{row_beside, rows_beside}
use Rattle.show_engine.specs.PicturesWritten.{is_among}
use Rattle.show_engine.proofs.RowsBeside.{rows_beside-drop}
use Rattle.show_engine.proofs.beside.push_rows.Goals as goal

pub loop-index-preserved : goal.loop-index-preserved
loop-index-preserved c =
    let s = c.args.scale in
    let lines = map bytes_of c.args.lines.now in
    let header = c.args.header in
    let places = c.args.places.now in
    let ops = c.args.history.now in
    let i = c.loop-index.index in
    let o = c.index-history-index.result in
    let old = c.loop-index.into.items in
    let rest = rows_beside s lines header places (i + 1 + 1) (drop (i + 1) ops) in
    c.loop-index.invariant
    ∙ ap (λ rows. old ++ rows) (rows_beside-drop s lines header places (i + 1) ops i o c.loop-index-test.true c.index-history-index.is)
    ∙ sym (append_assoc old (row_beside s o (is_among places (i + 1)) lines (i + 1 + header)) rest)
    ∙ ap (λ new. new ++ rest) (sym (rw (c.is_among-is_of.ensures) at c.in_ok-push_row.ensures))

pub returns : goal.returns
returns c =
    let rows = rows_beside c.args.scale (map bytes_of c.args.lines.now) c.args.header c.args.places.now (c.loop-index.index + 1) in
    sym (c.loop-index.invariant ∙ ap (λ rest. c.loop-index.into.items ++ rest) (at_drop_all rows c.args.history.now c.loop-index.index c.loop-index-test.false) ∙ append-nil c.loop-index.into.items)
