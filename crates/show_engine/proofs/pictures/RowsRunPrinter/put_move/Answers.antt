use Rattle.std.proofs.Common.{◌++◌, List, sym, subst}
use Rattle.std.specs.Prelude.{ℕ}
use Rattle.std.proofs.lemmas.Result.{err_from_is_err_and}
use Rattle.run_engine.specs.Answers.{Tells}
use Rattle.run_engine.proofs.HasTold.{StopsTelling-memory, TakesPrefix-none, Tells-put, Tells-refused}
use Rattle.run_engine.proofs.Texts.{moves_text-one}
use Rattle.show_engine.specs.Pictures.{drawn_text}
use Rattle.show_engine.specs.PicturesWritten.{is_among}
use Rattle.show_engine.proofs.pictures.RowsRunPrinter.put_move.Goals as goal

pub returns-in_err-line-clause-tells : goal.returns-in_err-line-clause-tells
returns-in_err-line-clause-tells g c =
    let p = err_from_is_err_and c.from_residual.result c.from_residual.ensures.1 in
    let a = g.W.Sink.state c.args.writer.now in
    rw (p.1, p.2) (Tells-refused a a _ _ _ (TakesPrefix-none a _) (StopsTelling-memory a _ c.in_err-line.ensures.memory))

pub returns-clause-tells : goal.returns-clause-tells
returns-clause-tells g c =
    let a = g.W.Sink.state c.args.writer.now in
    let b = g.W.Sink.state c.put.new.sink in
    let puts = rw (c.as_slice.ensures, c.in_ok-line.ensures.text) at c.put.ensures in
    let rows = c.args.self.now in
    let same = moves_text-one (drawn_text rows.frame (is_among rows.effects.now) g.row.B) c.args.one c.args.world.now _ c.in_ok-line.ensures.ok in
    subst (λ (t : List ℕ). Tells a b (c.args.block.now ++ t) c.put.new.self c.put.result) (sym same) (Tells-put a b _ c.put.new.self c.put.result puts)
