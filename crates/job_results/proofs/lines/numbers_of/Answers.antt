use Rattle.std.proofs.Common.{rules, []}
use Rattle.std.proofs.lemmas.Result.{err_from_is_err_and}
use Rattle.text_io.specs.Numerals.{numeral}
use Rattle.text_io.proofs.FirstWords.{second_of_two}
use Rattle.job_results.proofs.JobLines.{keeps_two}
use Rattle.job_results.proofs.lines.numbers_of.Goals as goal

pub returns-in_err-b : goal.returns-in_err-b
returns-in_err-b c =
    let a = c.in_ok-a.ensures in
    let none = c.in_err-b.ensures in
    let p = err_from_is_err_and c.from_residual-in_err-b.result c.from_residual-in_err-b.ensures.1 in
    rw (p.1, p.2) (none.0, λ two words. none.1 two.1 [] (second_of_two c.args.words (numeral a.0) (numeral two.0) (numeral two.1) c.number.new.self a.1 words))

pub returns : goal.returns
returns c =
    let a = c.in_ok-a.ensures in
    let b = c.in_ok-b.ensures in
    ((a.0, b.0), search rules, rw c.zip.ensures (keeps_two (a.0, b.0) c.in_ok-a.a c.in_ok-b.b a.2 b.2))
