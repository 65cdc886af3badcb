use Rattle.std.proofs.Common.{rules, ◌≡◌, codes, refl}
use Rattle.std.proofs.lemmas.Result.{err_from_is_err_and}
use Rattle.job_results.specs.JobTexts.{Add, Mul, Div, Len}
use Rattle.job_results.proofs.JobLines.{no_numbers, no_text, not_len}
use Rattle.job_results.proofs.lines.parts_of.Goals as goal

pub returns-in_err-numbers_of : goal.returns-in_err-numbers_of
returns-in_err-numbers_of c =
    let none = c.in_err-numbers_of.ensures in
    let p = err_from_is_err_and c.from_residual.result c.from_residual.ensures.1 in
    let is : c.in-Some.word.now ≡ codes "add" = search rules in
    rw (p.1, p.2) (none.0, no_numbers c.args.words c.in-Some.word.now c.next_word.new.self c.in-Some.ensures (not_len _ _ is refl) none.1)

pub returns-then-eq : goal.returns-then-eq
returns-then-eq c =
    let found = c.in_ok-numbers_of.ensures in
    (Add found.0.0 found.0.1, (tt, search rules), c.sum.ensures found.0 found.2)

pub returns-in_err-numbers_of-2 : goal.returns-in_err-numbers_of-2
returns-in_err-numbers_of-2 c =
    let none = c.in_err-numbers_of-2.ensures in
    let p = err_from_is_err_and c.from_residual-in_err-numbers_of-2.result c.from_residual-in_err-numbers_of-2.ensures.1 in
    let is : c.in-Some.word.now ≡ codes "mul" = search rules in
    rw (p.1, p.2) (none.0, no_numbers c.args.words c.in-Some.word.now c.next_word.new.self c.in-Some.ensures (not_len _ _ is refl) none.1)

pub returns-then-eq-2 : goal.returns-then-eq-2
returns-then-eq-2 c =
    let found = c.in_ok-numbers_of-2.ensures in
    (Mul found.0.0 found.0.1, (tt, search rules), c.product.ensures found.0 found.2)

pub returns-in_err-numbers_of-3 : goal.returns-in_err-numbers_of-3
returns-in_err-numbers_of-3 c =
    let none = c.in_err-numbers_of-3.ensures in
    let p = err_from_is_err_and c.from_residual-in_err-numbers_of-3.result c.from_residual-in_err-numbers_of-3.ensures.1 in
    let is : c.in-Some.word.now ≡ codes "div" = search rules in
    rw (p.1, p.2) (none.0, no_numbers c.args.words c.in-Some.word.now c.next_word.new.self c.in-Some.ensures (not_len _ _ is refl) none.1)

pub returns-then-eq-3 : goal.returns-then-eq-3
returns-then-eq-3 c =
    let found = c.in_ok-numbers_of-3.ensures in
    (Div found.0.0 found.0.1, (tt, search rules), c.quotient.ensures found.0 found.2)

pub returns-in_err-printable_in : goal.returns-in_err-printable_in
returns-in_err-printable_in c =
    let none = c.in_err-printable_in.ensures in
    let p = err_from_is_err_and c.from_residual-in_err-printable_in.result c.from_residual-in_err-printable_in.ensures.1 in
    rw (p.1, p.2) (none.0, no_text c.args.words c.in-Some-remaining.text.now (search rules) none.1)

pub returns : goal.returns
returns c =
    let found = c.in_ok-printable_in.ensures in
    (Len c.in-Some-remaining.text.now, (found.0, search rules), c.length.ensures c.in-Some-remaining.text.now found.1)
