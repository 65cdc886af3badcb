-- The lemma is the law.
use Rattle.step_machine.proofs.Words.{reading}
use Rattle.step_machine.proofs.laws.reading_a_word_is_reading_its_place.Goals as goal

pub returns : goal.returns
returns c = reading
