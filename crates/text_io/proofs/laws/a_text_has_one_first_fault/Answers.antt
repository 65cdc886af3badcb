-- Each lemma is a clause of the law.
use Rattle.text_io.proofs.Single.{no_fault, one_fault}
use Rattle.text_io.proofs.laws.a_text_has_one_first_fault.Goals as goal

pub returns : goal.returns
returns g c = record {
  one = λ s text m n c d sound. one_fault g.G.LineGrammar.grammar sound s text m n c d;
  none = λ s rs text n c sound. no_fault g.G.LineGrammar.grammar sound s rs text n c;
}
