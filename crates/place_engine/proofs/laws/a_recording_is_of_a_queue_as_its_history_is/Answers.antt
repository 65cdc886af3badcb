-- The lemma is the law.
use Rattle.place_engine.proofs.OfTexts.{of_queue-as_history}
use Rattle.place_engine.proofs.laws.a_recording_is_of_a_queue_as_its_history_is.Goals as goal

pub returns : goal.returns
returns c = of_queue-as_history
