-- The lemma is the law.
use Rattle.text_io.proofs.Single.{one_list}
use Rattle.text_io.proofs.laws.a_text_is_of_one_list.Goals as goal

pub returns : goal.returns
returns g c = λ s rs qs text sound. one_list g.G.LineGrammar.grammar sound s rs qs text
