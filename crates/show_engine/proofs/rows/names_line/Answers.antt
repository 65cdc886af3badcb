use Rattle.std.proofs.Common.{◌+◌, [], sym, ◌∙◌, arith}
use Rattle.std.proofs.lemmas.List.{take_all}
use Rattle.show_engine.proofs.rows.names_line.Goals as goal

pub loop-offset-init : goal.loop-offset-init
loop-offset-init c = record {
  text = c.put_at.ensures.text [] (c.new-line.ensures ∙ sym (take_all (c.args.frame.width + 1) [] (omega arith)));
  fits = c.put_at.ensures.fits;
}
