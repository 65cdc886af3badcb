-- The two lemmas are the law.
use Rattle.step_machine.proofs.EitherQueue.{have_their_places, queue_and_free_apart}
use Rattle.step_machine.proofs.non_blocking_laws.each_node_is_in_one_place.Goals as goal

pub returns : goal.returns
returns c = record { places = λ w r e. have_their_places w r; apart = λ w r e. queue_and_free_apart w r }
