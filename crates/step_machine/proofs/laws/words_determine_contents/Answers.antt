-- The lemma is the law.
use Rattle.step_machine.proofs.Tables.{words_apart}
use Rattle.step_machine.proofs.laws.words_determine_contents.Goals as goal

pub returns : goal.returns
returns c bits a b split = words_apart bits split a b
