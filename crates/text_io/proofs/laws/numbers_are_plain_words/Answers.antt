-- Each lemma is a clause of the law.
use Rattle.text_io.proofs.Numerals.{numeral_injective}
use Rattle.text_io.proofs.Digits.{plain_or_number}
use Rattle.text_io.proofs.laws.numbers_are_plain_words.Goals as goal

pub returns : goal.returns
returns c = record { plain = plain_or_number; one = numeral_injective }
