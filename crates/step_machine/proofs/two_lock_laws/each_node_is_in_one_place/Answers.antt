use Rattle.step_machine.proofs.EitherQueue.{have_their_places, queue_and_free_apart}
use Rattle.step_machine.proofs.two_lock_laws.each_node_is_in_one_place.Goals as goal

pub returns-clause-places : goal.returns-clause-places
returns-clause-places c = λ w r e. have_their_places w r

pub returns-clause-apart : goal.returns-clause-apart
returns-clause-apart c = λ w r e. queue_and_free_apart w r
