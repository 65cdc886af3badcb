use Rattle.std.proofs.Common.{◌/◌, ◌≤◌, arith}
use Rattle.split_sum.proofs.Splitting.{squares-halves}
use Rattle.split_sum.proofs.ranges.halves.Goals as goal

pub returns : goal.returns
returns c =
    let r = c.args.range in
    let low : r.many / 2 ≤ r.many = omega arith in
    squares-halves r.first c.in_ok-middle.middle r.many (r.many / 2) low c.in_ok-middle.ensures.1
