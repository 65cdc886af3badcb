-- The lemma is the law.
use Rattle.recording_text.proofs.Linear.{linear-as_history}
use Rattle.recording_text.proofs.laws.a_recording_is_linearizable_as_its_history_is.Goals as goal

pub returns : goal.returns
returns c = linear-as_history
