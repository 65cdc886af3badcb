use Rattle.std.proofs.Common.{arith}
use Rattle.placing.proofs.Ranks.{has_room}
use Rattle.placing.proofs.spread_stamps.Spread.first.Goals as goal

pub returns-in_err-before-clause-some : goal.returns-in_err-before-clause-some
returns-in_err-before-clause-some c = λ room there.
    let below = has_room c.args.self.now.numbers.items c.args.self.now.width c.args.number c.in_ok-rank.field-0 18446744073709551616 c.in_ok-rank.ensures.there room in
    absurd (c.in_err-before.ensures (omega (arith, below)))

pub returns-in_err-first-clause-some : goal.returns-in_err-first-clause-some
returns-in_err-first-clause-some c = λ room there.
    let below = has_room c.args.self.now.numbers.items c.args.self.now.width c.args.number c.in_ok-rank.field-0 18446744073709551616 c.in_ok-rank.ensures.there room in
    let product = c.in_ok-before.ensures in
    absurd (c.in_err-first.ensures (omega (arith, below, product)))
