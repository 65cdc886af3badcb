-- The two lemmas are the law.
use Rattle.history.proofs.Judging.{yes_is_right}
use Rattle.history.proofs.Judged.{right_is_yes}
use Rattle.history.proofs.laws.yes_is_placed_and_legal.Goals as goal

pub returns : goal.returns
returns c = λ ops. (yes_is_right ops, λ h. right_is_yes ops h.0 h.1)
