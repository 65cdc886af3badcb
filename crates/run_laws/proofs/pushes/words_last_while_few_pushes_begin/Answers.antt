-- The lemma is the law.
use Rattle.run_laws.proofs.Lasting.{each_lasts_for}
use Rattle.run_laws.proofs.pushes.words_last_while_few_pushes_begin.Goals as goal

pub returns : goal.returns
returns c = each_lasts_for
