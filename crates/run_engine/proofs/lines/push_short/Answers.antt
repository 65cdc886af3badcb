use Rattle.std.proofs.Common.{◌≤◌, length, decimal, arith, ap, length-append}
use Rattle.std.proofs.lemmas.Fmt.{length-decimal-le}
use Rattle.run_engine.proofs.lines.push_short.Goals as goal

pub push_digits-requires : goal.push_digits-requires
push_digits-requires c =
    let n = c.args.number in
    let few : length (decimal n) ≤ 10 = length-decimal-le 10 n (omega arith) (omega (arith, c.ranges.number.fits)) (omega (arith, c.ranges.number.fits)) in
    rw c.from.ensures (omega (arith, few, c.requires))

pub returns-clause-short : goal.returns-clause-short
returns-clause-short c =
    let n = c.args.number in
    let few : length (decimal n) ≤ 10 = length-decimal-le 10 n (omega arith) (omega (arith, c.ranges.number.fits)) (omega (arith, c.ranges.number.fits)) in
    let digits = rw c.from.ensures at c.push_digits.ensures in
    omega (arith, few, simp length-append at (ap length digits))
