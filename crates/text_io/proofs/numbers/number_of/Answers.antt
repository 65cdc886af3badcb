use Rattle.std.proofs.Common.{arith, refl, sym, ◌∙◌}
use Rattle.std.proofs.lemmas.Bool.{eqb-true}
use Rattle.text_io.proofs.Digits.{IsFrontOf-next, no_number-byte, no_number-empty, no_number-zero}
use Rattle.text_io.proofs.numbers.number_of.Goals as goal

pub returns-then-not-is_ascii_digit : goal.returns-then-not-is_ascii_digit
returns-then-not-is_ascii_digit c =
    (refl, no_number-byte c.args.word.now c.loop-byte.byte-index _ (omega arith) refl (rw c.if-not-is_ascii_digit.true at c.is_ascii_digit.ensures.cases))

pub loop-byte-preserved : goal.loop-byte-preserved
loop-byte-preserved c =
    let digit = rw c.if-not-is_ascii_digit.false at c.is_ascii_digit.ensures.cases in
    let n = c.loop-byte.invariant.0 in
    (_, c.grown-number.ensures n c.loop-byte.invariant.1, IsFrontOf-next n c.args.word.now c.loop-byte.byte-index _ (omega arith) refl digit.0 digit.1 c.loop-byte.invariant.2)

pub returns-then-is_empty : goal.returns-then-is_empty
returns-then-is_empty c = (refl, no_number-empty c.args.word.now (eqb-true _ _ (sym c.is_empty.ensures ∙ c.if-is_empty.true)))

pub returns-then-word-eq48 : goal.returns-then-word-eq48
returns-then-word-eq48 c = (refl, no_number-zero c.args.word.now c.if-word-gt1.true c.if-word-eq48.true)
