use Rattle.std.proofs.Common.{rules, []}
use Rattle.std.proofs.lemmas.Result.{err_from_is_err_and}
use Rattle.text_io.specs.Numerals.{numeral}
use Rattle.history.specs.declared.operations.Taken.{Taken}
use Rattle.text_io.proofs.FirstWords.{second_of_two}
use Rattle.history_text.proofs.replies.value_of.Goals as goal

pub returns-in_err-body : goal.returns-in_err-body
returns-in_err-body c =
    let from = c.in_ok-from.ensures in
    let none = c.in_err-body.ensures in
    let p = err_from_is_err_and c.from_residual-in_err-body.result c.from_residual-in_err-body.ensures.1 in
    rw (p.1, p.2) (none.0, λ v words. none.1 v.body [] (second_of_two c.args.words (numeral from.0) (numeral v.from) (numeral v.body) c.number.new.self from.1 words))

pub returns : goal.returns
returns c =
    let from = c.in_ok-from.ensures in
    let body = c.in_ok-body.ensures in
    let value : Taken = record { from = from.0; body = body.0 } in
    (value, search rules, c.taken.ensures value from.2 body.2)
