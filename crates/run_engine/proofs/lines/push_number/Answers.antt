use Rattle.std.proofs.Common.{◌≤◌, length, decimal, arith, ap, length-append}
use Rattle.std.proofs.lemmas.Fmt.{length-decimal-le}
use Rattle.run_engine.proofs.lines.push_number.Goals as goal

pub push_digits-requires : goal.push_digits-requires
push_digits-requires c =
    let n = c.args.number in
    let few : length (decimal n) ≤ 20 = length-decimal-le 20 n (omega arith) (omega (arith, c.ranges.number.fits)) c.ranges.number.fits in
    omega (arith, few, c.requires)

pub returns-clause-short : goal.returns-clause-short
returns-clause-short c =
    let n = c.args.number in
    let few : length (decimal n) ≤ 20 = length-decimal-le 20 n (omega arith) (omega (arith, c.ranges.number.fits)) c.ranges.number.fits in
    omega (arith, few, simp length-append at (ap length c.push_digits.ensures))
