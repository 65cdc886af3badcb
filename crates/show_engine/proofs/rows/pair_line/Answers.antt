use Rattle.std.proofs.Common.{◌+◌, ◌++◌, [], arith, sym, ◌∙◌}
use Rattle.std.proofs.lemmas.List.{take_all}
use Rattle.show_engine.specs.Rows.{padded, pair_row}
use Rattle.show_engine.proofs.rows.pair_line.Goals as goal

pub returns : goal.returns
unfolding pair_row
returns c =
    let one = c.put_at.ensures.text [] (c.new-line.ensures ∙ sym (take_all (c.args.frame.width + 1) [] (omega arith))) in
    let two = c.put_at-2.ensures.text c.args.first.now one in
    c.truncate.ensures.front (padded c.args.column c.args.first.now ++ c.args.second.now) two
