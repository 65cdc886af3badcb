-- Each lemma is a clause of the law.
use Rattle.history.proofs.Ordered.{rising_moves, rising_rises}
use Rattle.history.proofs.laws.the_order_is_by_rising_place.Goals as goal

pub returns : goal.returns
returns c = record { same = rising_moves; rises = rising_rises }
