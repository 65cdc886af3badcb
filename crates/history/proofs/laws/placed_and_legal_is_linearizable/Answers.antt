-- The lemma is the law, and a verdict of yes says that a history is placed and legal.
use Rattle.history.proofs.Judging.{yes_is_right}
use Rattle.history.proofs.Linearizing.{placed_linearizes}
use Rattle.history.proofs.laws.placed_and_legal_is_linearizable.Goals as goal

pub returns : goal.returns
returns c = record {
  placed = placed_linearizes;
  judged = λ ops yes. let h = yes_is_right ops yes in placed_linearizes ops h.0 h.1;
}
