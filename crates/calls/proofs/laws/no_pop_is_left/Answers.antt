-- The lemma is the law.
use Rattle.calls.specs.declared.calls.Bell.TheVariants.{Values}
use Rattle.calls.proofs.Queue as queue
use Rattle.calls.proofs.laws.no_pop_is_left.Goals as goal

pub returns : goal.returns
returns c = λ capacity q reached. queue.no_call_is_left Values reached
