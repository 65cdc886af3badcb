use Rattle.std.proofs.Common.{◌≤◌, length, decimal, arith, ap}
use Rattle.std.proofs.lemmas.Fmt.{length-decimal-le}
use Rattle.show_engine.proofs.chains.digits_of.Goals as goal

pub returns-clause-short : goal.returns-clause-short
returns-clause-short c =
    let n = c.args.number in
    let fits = c.ranges.number.fits in
    let few : length (decimal n) ≤ 10 = length-decimal-le 10 n (omega arith) (omega (arith, fits)) (omega (arith, fits)) in
    let digits = rw (c.new-digits.ensures, c.from.ensures) at c.push_number.ensures.digits in
    omega (arith, few, ap length digits)

pub returns-clause-few : goal.returns-clause-few
returns-clause-few c = λ small.
    let n = c.args.number in
    let few : length (decimal n) ≤ 5 = length-decimal-le 5 n (omega arith) (omega (arith, small)) (omega (arith, small)) in
    let digits = rw (c.new-digits.ensures, c.from.ensures) at c.push_number.ensures.digits in
    omega (arith, few, ap length digits)
