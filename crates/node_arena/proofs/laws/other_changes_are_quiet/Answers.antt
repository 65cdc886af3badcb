-- The lemma is the law.
use Rattle.node_arena.proofs.Quiet.{all_quiet}
use Rattle.node_arena.proofs.laws.other_changes_are_quiet.Goals as goal

pub returns : goal.returns
returns c = all_quiet
