-- The lemma is the law.
use Rattle.text_io.proofs.Total.{not_neither}
use Rattle.text_io.proofs.laws.a_text_is_read_or_faulty.Goals as goal

pub returns : goal.returns
returns g c = not_neither g.G.LineGrammar.grammar
