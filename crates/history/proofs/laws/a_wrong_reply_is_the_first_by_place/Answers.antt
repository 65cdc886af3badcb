-- The lemma is the law.
use Rattle.history.proofs.FirstWrong.{first_is_wrong}
use Rattle.history.proofs.laws.a_wrong_reply_is_the_first_by_place.Goals as goal

pub returns : goal.returns
returns c = first_is_wrong
