-- The lemma is the law.
use Rattle.node_arena.proofs.Between.{keeps_what_d4_found}
use Rattle.node_arena.proofs.laws.what_d4_found_stays_noted.Goals as goal

pub returns : goal.returns
returns c = keeps_what_d4_found
