use Rattle.std.proofs.Common.{arith}
use Rattle.placing.proofs.Ranks.{has_room}
use Rattle.placing.proofs.spread_stamps.Spread.behind_first.Goals as goal

pub returns-in_err-at-clause-some : goal.returns-in_err-at-clause-some
returns-in_err-at-clause-some c = λ room behind there.
    let f = c.in_ok-first.ensures.first in
    let begins = f.is in
    let below = has_room c.args.self.now.numbers.items c.args.self.now.width c.args.number f.rank 18446744073709551616 f.there room in
    absurd (c.in_err-at.ensures (omega (arith, below, begins, behind)))
