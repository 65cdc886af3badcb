use Rattle.std.proofs.lemmas.Result.{err_from_is_err_and}
use Rattle.page_engine.proofs.Pieces.{Writes-behind, Writes-stopped}
use Rattle.page_engine.proofs.engine.write_page.Goals as goal

-- src/engine.rt:46:5
pub returns-in_err-send : goal.returns-in_err-send
returns-in_err-send g c =
    let p = err_from_is_err_and c.from_residual.result c.from_residual.ensures.1 in
    let first = rw (c.as_bytes.ensures.value) at c.in_err-send.ensures in
    rw (p.1, p.2) (Writes-stopped {A = Unit {0}} _ _ _ _ _ (Writes-stopped {A = Unit {0}} _ _ _ _ _ first))

-- src/engine.rt:47:5
pub returns-in_err-send-2 : goal.returns-in_err-send-2
returns-in_err-send-2 g c =
    let p = err_from_is_err_and c.from_residual-in_err-send-2.result c.from_residual-in_err-send-2.ensures.1 in
    let first = rw (c.as_bytes.ensures.value) at c.in_ok-send.ensures in
    rw (p.1, p.2) (Writes-stopped _ _ _ _ _ (Writes-behind _ _ _ _ _ _ first.ok first.quiet c.in_err-send-2.ensures))

-- src/engine.rt:42:1
pub returns : goal.returns
returns g c =
    let first = rw (c.as_bytes.ensures.value) at c.in_ok-send.ensures in
    let state = g.W.Sink.state in
    let both = Writes-behind (state c.args.writer.now) (state c.send.new.sink) (state c.send-2.new.sink) _ _ _ first.ok first.quiet c.in_ok-send-2.ensures in
    let last = rw (c.as_bytes-2.ensures.value) at c.send-3.ensures in
    Writes-behind (state c.args.writer.now) (state c.send-2.new.sink) _ _ _ _ both.ok both.quiet last
