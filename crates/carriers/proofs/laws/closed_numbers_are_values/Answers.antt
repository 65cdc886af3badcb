-- The lemma is the law.
use Rattle.carriers.proofs.Ended.{Closes-deeds}
use Rattle.carriers.proofs.laws.closed_numbers_are_values.Goals as goal

pub returns : goal.returns
returns c = Closes-deeds
