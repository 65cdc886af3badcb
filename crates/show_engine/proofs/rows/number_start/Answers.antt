use Rattle.std.proofs.Common.{◌≤◌, ◌++◌, length, decimal, arith, ap, ◌∙◌, List, ℕ}
use Rattle.std.proofs.lemmas.Fmt.{length-decimal-le}
use Rattle.show_engine.proofs.rows.number_start.Goals as goal

pub returns-clause-few : goal.returns-clause-few
returns-clause-few c = λ small.
    let n = c.args.number in
    let few : length (decimal n) ≤ 6 = length-decimal-le 6 n (omega arith) (omega (arith, small)) (omega (arith, small)) in
    let digits = ap length (c.as_slice-digits.ensures ∙ c.push_number.ensures.digits ∙ ap (λ (l : List ℕ). l ++ decimal n) c.new-digits.ensures) in
    omega (arith, few, digits, ap length c.new-line.ensures)
