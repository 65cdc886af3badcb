-- The lemmas are the law.
use Rattle.carriers.proofs.SmallRuns.{popped_from_nothing-fails, popped_from_behind-fails, popped_another-fails, popped_as_anothers-fails}
use Rattle.carriers.proofs.SmallRuns.{popped_twice-fails, pushed_behind_a_shut-fails, shut_twice-fails}
use Rattle.carriers.proofs.laws.wrong_histories_are_no_runs.Goals as goal

pub returns-clause-nothing : goal.returns-clause-nothing
returns-clause-nothing c = popped_from_nothing-fails

pub returns-clause-behind : goal.returns-clause-behind
returns-clause-behind c = popped_from_behind-fails

pub returns-clause-another : goal.returns-clause-another
returns-clause-another c = popped_another-fails

pub returns-clause-anothers : goal.returns-clause-anothers
returns-clause-anothers c = popped_as_anothers-fails

pub returns-clause-twice : goal.returns-clause-twice
returns-clause-twice c = popped_twice-fails

pub returns-clause-after_shut : goal.returns-clause-after_shut
returns-clause-after_shut c = pushed_behind_a_shut-fails

pub returns-clause-shut_twice : goal.returns-clause-shut_twice
returns-clause-shut_twice c = shut_twice-fails
