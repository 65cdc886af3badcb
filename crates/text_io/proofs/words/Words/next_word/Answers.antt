use Rattle.std.proofs.Common.{arith}
use Rattle.text_io.proofs.Splits.{words_of_word, words_of_more}
use Rattle.text_io.proofs.words.Words.next_word.Goals as goal

pub returns-in-Some : goal.returns-in-Some
returns-in-Some c = grind (arith, words_of_more c.in-Some.word.now c.in-Some.rest.now c.in-Some.ensures.0, c.in-Some.ensures.1)

pub returns-in-None : goal.returns-in-None
returns-in-None c = grind (arith, words_of_word c.in_ok-rest.rest.now c.in-None.ensures)
