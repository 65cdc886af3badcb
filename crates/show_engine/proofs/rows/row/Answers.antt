use Rattle.std.proofs.Common.{◌≡◌, ◌+◌, ◌++◌, [], ap, sym, ◌∙◌, arith, codes, List, ℕ}
use Rattle.std.proofs.lemmas.List.{take_all}
use Rattle.show_engine.specs.Frames.{column_of}
use Rattle.show_engine.specs.Rows.{beside, truncated_to, padded, row_text}
use Rattle.show_engine.proofs.Truncations.{beside-none, beside-some}
use Rattle.show_engine.proofs.rows.row.Goals as goal

pub returns-then-is_empty : goal.returns-then-is_empty
unfolding row_text
returns-then-is_empty c =
    let frame = c.args.frame in
    let one = c.put_at.ensures.text [] (c.new-line.ensures ∙ sym (take_all (frame.width + 1) [] (omega arith))) in
    let two = c.put_at-2.ensures.text c.args.start.now one in
    let left = padded c.column_of.result c.args.start.now ++ c.args.cell.now in
    let alone = beside-none frame.side c.args.side.now left c.is_empty.result c.is_empty.ensures c.if-is_empty.true in
    let at : c.column_of.result ≡ column_of frame c.args.actor = c.column_of.ensures.column ∙ ap (column_of frame) c.from.ensures in
    c.truncate.ensures.front left two
    ∙ ap (λ (l : List ℕ). truncated_to frame.width l ++ codes "\n") (sym alone)
    ∙ ap (λ (n : ℕ). truncated_to frame.width (beside frame.side c.args.side.now (padded n c.args.start.now ++ c.args.cell.now)) ++ codes "\n") at

pub returns : goal.returns
unfolding row_text
returns c =
    let frame = c.args.frame in
    let one = c.put_at.ensures.text [] (c.new-line.ensures ∙ sym (take_all (frame.width + 1) [] (omega arith))) in
    let two = c.put_at-2.ensures.text c.args.start.now one in
    let left = padded c.column_of.result c.args.start.now ++ c.args.cell.now in
    let three = c.put_at-3.ensures.text left two in
    let both = beside-some frame.side c.args.side.now left c.is_empty.result c.is_empty.ensures c.if-is_empty.false in
    let at : c.column_of.result ≡ column_of frame c.args.actor = c.column_of.ensures.column ∙ ap (column_of frame) c.from.ensures in
    c.truncate-2.ensures.front (padded frame.side left ++ c.args.side.now) three
    ∙ ap (λ (l : List ℕ). truncated_to frame.width l ++ codes "\n") (sym both)
    ∙ ap (λ (n : ℕ). truncated_to frame.width (beside frame.side c.args.side.now (padded n c.args.start.now ++ c.args.cell.now)) ++ codes "\n") at
