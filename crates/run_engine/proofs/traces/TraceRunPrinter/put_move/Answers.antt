use Rattle.std.proofs.Common.{◌++◌, List, sym, subst}
use Rattle.std.specs.Prelude.{ℕ}
use Rattle.std.proofs.lemmas.Result.{err_from_is_err_and}
use Rattle.run_engine.specs.Answers.{Tells}
use Rattle.run_engine.specs.Steps.{move_text}
use Rattle.run_engine.proofs.HasTold.{StopsTelling-memory, TakesPrefix-none, Tells-put, Tells-refused}
use Rattle.run_engine.proofs.Texts.{moves_text-one}
use Rattle.run_engine.proofs.traces.TraceRunPrinter.put_move.Goals as goal

pub returns-in_err-push_move-clause-tells : goal.returns-in_err-push_move-clause-tells
returns-in_err-push_move-clause-tells g c =
    let p = err_from_is_err_and c.from_residual.result c.from_residual.ensures.1 in
    let a = g.W.Sink.state c.args.writer.now in
    rw (p.1, p.2) (Tells-refused a a _ _ _ (TakesPrefix-none a _) (StopsTelling-memory a _ c.in_err-push_move.ensures.memory))

pub returns-clause-tells : goal.returns-clause-tells
returns-clause-tells g c =
    let a = g.W.Sink.state c.args.writer.now in
    let b = g.W.Sink.state c.put.new.sink in
    let puts = rw (c.as_slice.ensures, c.in_ok-push_move.ensures.text) at c.put.ensures in
    let same = moves_text-one (move_text g.row.B) c.args.one c.args.world.now _ c.in_ok-push_move.ensures.ok in
    subst (λ (t : List ℕ). Tells a b (c.args.block.now ++ t) c.put.new.self c.put.result) (sym same) (Tells-put a b _ c.put.new.self c.put.result puts)
