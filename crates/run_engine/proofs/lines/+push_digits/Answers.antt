use Rattle.std.proofs.Common.{◌++◌, decimal, length, arith, ap, ◌/◌, ◌∙◌, sym, append_assoc, length-append}
use Rattle.std.proofs.lemmas.Fmt.{decimal_digit, decimal_nonempty}
use Rattle.run_engine.proofs.Decimals.{decimal_pair, decimal_pairs, decimal_two, pair}
use Rattle.run_engine.proofs.lines.+push_digits.Goals as goal

pub push-requires : goal.push-requires
push-requires t c = omega (arith, decimal_nonempty c.args.number c.ranges.number.fits, c.requires)

pub push-requires-then-number-lt100 : goal.push-requires-then-number-lt100
push-requires-then-number-lt100 t c =
    let two = decimal_two c.args.number c.if-number-lt10.false c.if-number-lt100.true in
    omega (arith, ap length two, c.requires)

pub push_digits-requires : goal.push_digits-requires
push_digits-requires t c =
    let split = decimal_pair c.args.number c.if-number-lt100.false c.ranges.number.fits in
    (omega arith, omega (arith, simp length-append at (ap length split), c.requires))

pub push-requires-then-number-lt10000 : goal.push-requires-then-number-lt10000
push-requires-then-number-lt10000 t c =
    let split = decimal_pair c.args.number c.if-number-lt100.false c.ranges.number.fits in
    omega (arith, simp length-append at (ap length split), simp length-append at (ap length c.push_digits.ensures), c.requires)

pub push_digits-requires-else-number-lt10000 : goal.push_digits-requires-else-number-lt10000
push_digits-requires-else-number-lt10000 t c =
    let split = decimal_pairs c.args.number c.if-number-lt10000.false c.ranges.number.fits in
    (omega arith, omega (arith, simp length-append at (ap length split), c.requires))

pub push-requires-else-number-lt10000 : goal.push-requires-else-number-lt10000
push-requires-else-number-lt10000 t c =
    let split = decimal_pairs c.args.number c.if-number-lt10000.false c.ranges.number.fits in
    omega (arith, simp length-append at (ap length split), simp length-append at (ap length c.push_digits-else-number-lt10000.ensures), c.requires)

pub returns-then-number-lt10 : goal.returns-then-number-lt10
returns-then-number-lt10 t c = rw (decimal_digit c.args.number c.if-number-lt10.true) c.push.ensures.bytes

pub returns-then-number-lt100 : goal.returns-then-number-lt100
returns-then-number-lt100 t c = rw (decimal_two c.args.number c.if-number-lt10.false c.if-number-lt100.true) c.push-then-number-lt100.ensures.bytes

pub returns-then-number-lt10000 : goal.returns-then-number-lt10000
returns-then-number-lt10000 t c =
    let n = c.args.number in
    let split = decimal_pair n c.if-number-lt100.false c.ranges.number.fits in
    c.push-then-number-lt10000.ensures.bytes ∙ ap (λ l. l ++ pair n) c.push_digits.ensures
    ∙ append_assoc c.args.line.now (decimal (n / 100)) (pair n) ∙ ap (λ l. c.args.line.now ++ l) (sym split)

pub returns-else-number-lt10000 : goal.returns-else-number-lt10000
returns-else-number-lt10000 t c =
    let n = c.args.number in
    let split = decimal_pairs n c.if-number-lt10000.false c.ranges.number.fits in
    let last = pair (n / 100) ++ pair n in
    c.push-else-number-lt10000.ensures.bytes ∙ ap (λ l. l ++ last) c.push_digits-else-number-lt10000.ensures
    ∙ append_assoc c.args.line.now (decimal (n / 100 / 100)) last ∙ ap (λ l. c.args.line.now ++ l) (sym split)
