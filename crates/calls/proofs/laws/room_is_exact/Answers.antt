-- The lemma is the law.
use Rattle.calls.proofs.Queue as queue
use Rattle.calls.proofs.laws.room_is_exact.Goals as goal

pub returns : goal.returns
returns c = λ capacity q reached. queue.room_is_exact reached
