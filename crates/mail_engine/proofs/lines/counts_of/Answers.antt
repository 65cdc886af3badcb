use Rattle.std.proofs.lemmas.Result.{err_from_is_err_and}
use Rattle.mail_engine.proofs.MailLines.{AreOfHeader-said, ReadsHeader-kept}
use Rattle.mail_engine.proofs.lines.counts_of.Goals as goal

pub returns-in_err-counts_in : goal.returns-in_err-counts_in
returns-in_err-counts_in c =
    let none = c.in_err-counts_in.ensures in
    let p = err_from_is_err_and c.from_residual.result c.from_residual.ensures.1 in
    rw (p.1, p.2, none.0) (λ h said. (rw c.of.ensures at none.1) h (AreOfHeader-said c.args.line.now h said))

pub returns : goal.returns
returns c =
    let found = c.in_ok-counts_in.ensures in
    rw c.ok_or.ensures.value (ReadsHeader-kept c.args.line.now found.0 (rw c.of.ensures at found.1) c.in_ok-counts_in.field-0 found.2)
