-- The lemma is the law.
use Rattle.step_machine.proofs.Words.{writing}
use Rattle.step_machine.proofs.laws.writing_a_word_is_writing_its_place.Goals as goal

pub returns : goal.returns
returns c = writing
