use Rattle.std.proofs.lemmas.Result.{err_from_is_err_and}
use Rattle.mail_engine.proofs.MailLines.{AreOfLetter-said, ReadsLetter-kept}
use Rattle.mail_engine.proofs.lines.letter_of.Goals as goal

pub returns-in_err-parts_of : goal.returns-in_err-parts_of
returns-in_err-parts_of c =
    let none = c.in_err-parts_of.ensures in
    let p = err_from_is_err_and c.from_residual.result c.from_residual.ensures.1 in
    rw (p.1, p.2, none.0) (λ letter said. (rw c.of.ensures at none.1) letter (AreOfLetter-said c.args.line.now letter said))

pub returns : goal.returns
returns c =
    let found = c.in_ok-parts_of.ensures in
    rw c.ok_or.ensures.value (ReadsLetter-kept c.args.senders c.args.line.now found.0 (rw c.of.ensures at found.1) c.in_ok-parts_of.field-0 found.2)
