-- The lemma is the law.
use Rattle.recording_text.proofs.Longer.{linear-as_longer}
use Rattle.recording_text.proofs.laws.a_recording_is_linearizable_as_its_longer_one_is.Goals as goal

pub returns : goal.returns
returns c = linear-as_longer
