use Rattle.ring_values.proofs.LearnedWords.{words_permits, words_new}
use Rattle.ring_values.proofs.words.RingWords.new.Goals as goal

pub returns-clause-permits : goal.returns-clause-permits
returns-clause-permits g c = words_permits _ _ _ _ _ _ c.in_ok-ring.ensures.ok

pub returns-clause-unused : goal.returns-clause-unused
returns-clause-unused g c = words_new _ _ _ _ _ _ c.in_ok-ring.ensures.ok
