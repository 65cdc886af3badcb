use Rattle.std.proofs.lemmas.Result.{err_from_is_err_and}
use Rattle.page_engine.proofs.Told.{BeginsPage-told, IsRunFault-told, RunRefused-told, WritesPage-told, WritesStoppedPage-told, if_line}
use Rattle.page_engine.proofs.engine.page_text.Goals as goal

pub returns-clause-ok : goal.returns-clause-ok
returns-clause-ok g c =
    let given = c.in_ok-given in
    WritesPage-told c.args.frame.now given.given _ given.ensures.read (g.W.Sink.state c.args.writer.now) (g.W.Sink.state c.write_given.new.writer) given.ensures.one c.in_ok-write_given.ensures.ok

pub returns-in_err-write_given-clause-prefix : goal.returns-in_err-write_given-clause-prefix
returns-in_err-write_given-clause-prefix g c =
    let given = c.in_ok-given in
    let p = err_from_is_err_and c.from_residual-in_err-write_given.result c.from_residual-in_err-write_given.ensures.1 in
    rw (p.1, p.2) (λ e. BeginsPage-told c.args.frame.now given.given _ given.ensures.read (g.W.Sink.state c.args.writer.now) (g.W.Sink.state c.write_given.new.writer) given.ensures.one (c.in_err-write_given.ensures.prefix e))

pub returns-in_err-write_given-clause-stopped : goal.returns-in_err-write_given-clause-stopped
returns-in_err-write_given-clause-stopped g c =
    let given = c.in_ok-given in
    let p = err_from_is_err_and c.from_residual-in_err-write_given.result c.from_residual-in_err-write_given.ensures.1 in
    rw (p.1, p.2) (if_line _ _ _ (λ line. WritesStoppedPage-told c.args.frame.now given.given _ given.ensures.read (g.W.Sink.state c.args.writer.now) (g.W.Sink.state c.write_given.new.writer) given.ensures.one line _) c.in_err-write_given.ensures.stopped_at)

pub returns-in_err-write_given-clause-fault : goal.returns-in_err-write_given-clause-fault
returns-in_err-write_given-clause-fault g c =
    let given = c.in_ok-given in
    let p = err_from_is_err_and c.from_residual-in_err-write_given.result c.from_residual-in_err-write_given.ensures.1 in
    rw (p.1, p.2) (IsRunFault-told c.args.frame.now given.given _ given.ensures.read (g.W.Sink.state c.args.writer.now) (g.W.Sink.state c.write_given.new.writer) given.ensures.one _ _ c.in_err-write_given.ensures.fault c.in_err-write_given.ensures.stopped_at)

pub returns-in_err-write_given-clause-refused : goal.returns-in_err-write_given-clause-refused
returns-in_err-write_given-clause-refused g c =
    let given = c.in_ok-given in
    let p = err_from_is_err_and c.from_residual-in_err-write_given.result c.from_residual-in_err-write_given.ensures.1 in
    rw (p.1, p.2) (if_line _ _ _ (λ line. RunRefused-told c.args.frame.now given.given _ given.ensures.read (g.W.Sink.state c.args.writer.now) (g.W.Sink.state c.write_given.new.writer) given.ensures.one line _) c.in_err-write_given.ensures.stopped_at)
