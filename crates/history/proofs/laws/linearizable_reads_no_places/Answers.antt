-- The lemma is the law.
use Rattle.history.proofs.Unplaced.{still_linearizable}
use Rattle.history.proofs.laws.linearizable_reads_no_places.Goals as goal

pub returns : goal.returns
returns c = still_linearizable
