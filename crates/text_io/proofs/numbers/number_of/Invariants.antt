use Rattle.std.proofs.Common.{ℕ, take}
use Rattle.text_io.specs.Numerals.{Shows}
use Rattle.text_io.proofs.Digits.{IsFrontOf}
use Rattle.text_io.proofs.numbers.number_of.Given as goal

abbrev pub invariant-loop-byte : goal.invariant-loop-byte
invariant-loop-byte l = (n : ℕ) × Shows n l.number × IsFrontOf n (take l.byte-index l.word)
