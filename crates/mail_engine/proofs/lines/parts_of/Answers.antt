use Rattle.std.proofs.Common.{rules, arith}
use Rattle.std.proofs.lemmas.Result.{err_from_is_err_and}
use Rattle.mail_engine.specs.MailTexts.{SaidLetter}
use Rattle.mail_engine.proofs.MailLines.{no_text}
use Rattle.mail_engine.proofs.lines.parts_of.Goals as goal

pub returns-in_err-printable_in : goal.returns-in_err-printable_in
returns-in_err-printable_in c =
    let from = c.in_ok-from.ensures in
    let none = c.in_err-printable_in.ensures in
    let p = err_from_is_err_and c.from_residual-in_err-printable_in.result c.from_residual-in_err-printable_in.ensures.1 in
    rw (p.1, p.2) (none.0, no_text c.args.words c.number.new.self from.0 c.in-Some.text.now from.1 c.in-Some.ensures none.1)

pub returns : goal.returns
returns c =
    let from = c.in_ok-from.ensures in
    let text = c.in_ok-printable_in.ensures in
    let letter : SaidLetter = record { from = from.0; text = c.in-Some.text.now } in
    (letter, (text.0, search rules), c.letter.ensures c.args.senders letter (omega (arith, c.ranges.senders.fits)) (rw c.from.ensures at from.2) text.1)
