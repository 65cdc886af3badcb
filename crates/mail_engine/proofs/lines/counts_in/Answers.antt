use Rattle.std.proofs.Common.{rules}
use Rattle.std.proofs.lemmas.Result.{err_from_is_err_and}
use Rattle.mail_engine.specs.MailTexts.{MailHeader}
use Rattle.mail_engine.proofs.MailLines.{no_letters}
use Rattle.mail_engine.proofs.lines.counts_in.Goals as goal

pub returns-in_err-letters : goal.returns-in_err-letters
returns-in_err-letters c =
    let senders = c.in_ok-senders.ensures in
    let none = c.in_err-letters.ensures in
    let p = err_from_is_err_and c.from_residual-in_err-letters.result c.from_residual-in_err-letters.ensures.1 in
    rw (p.1, p.2) (none.0, no_letters c.args.words c.expect_word.new.self c.number.new.self senders.0 (search rules) senders.1 none.1)

pub returns : goal.returns
returns c =
    let senders = c.in_ok-senders.ensures in
    let letters = c.in_ok-letters.ensures in
    let h : MailHeader = record { senders = senders.0; letters = letters.0 } in
    (h, search rules, c.counted.ensures h senders.2 letters.2)
