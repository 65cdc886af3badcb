-- The lemma is the law.
use Rattle.step_machine.proofs.AccessesNameWords.{each_access_names_a_word}
use Rattle.step_machine.proofs.laws.accesses_name_words.Goals as goal

pub returns : goal.returns
returns c = each_access_names_a_word
