-- The lemma is the law.
use Rattle.calls.proofs.Queue as queue
use Rattle.calls.proofs.laws.no_more_than_room.Goals as goal

pub returns : goal.returns
returns c = λ capacity q reached. queue.no_more_than_room reached
